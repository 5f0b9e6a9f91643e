use Rattle.std.proofs.Common.{[]}
use Rattle.sa_resolve.proofs.list.Items.{last_stage, value_made}
use Rattle.sa_resolve.proofs.build.Builder.value.Goals as goal

pub returns : goal.returns
returns c = λ tables seen one sees last is.
    value_made tables seen c.args.self.now.scope.sight.now c.args.value.now one is c.args.self.now.stage last
    c.in_ok-name_of.field-0 c.in_ok-expr.field-0
    c.in_ok-name_of.ensures (c.in_ok-expr.ensures tables seen [] sees
    (last_stage seen [] c.args.self.now.stage last))
