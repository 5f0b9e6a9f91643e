use Rattle.std.proofs.Common.{◌∙◌, []}
use Rattle.sa_resolve.proofs.list.Items.{last_stage, star_made}
use Rattle.sa_resolve.proofs.build.Builder.starred.Goals as goal

pub returns : goal.returns
returns c = λ tables seen place last.
    star_made tables seen c.args.self.now.scope.sight.now place c.args.self.now.stage last c.args.column
    c.in_ok-from_str.field-0 c.in_ok-column.field-0
    (c.in_ok-from_str.ensures ∙ c.name-name.ensures)
    (c.in_ok-column.ensures tables seen [] place (last_stage seen [] c.args.self.now.stage last))
