use mir.Syntax.{w128}
use mir.Val.{SFits}
use Rattle.std.proofs.Common.{rules, sym, ap, ◌∙◌}
use Rattle.std.proofs.lemmas.Int.{to_z-of_z}
use Rattle.sa_resolve.specs.Clauses.{item_at, positioned}
use Rattle.sa_resolve.specs.Reading.{Reading}
use Rattle.sa_resolve.proofs.walk.Conditions.{last_built, last_stage}
use Rattle.sa_resolve.proofs.walk.Placed.{placed-Number, placed-other}
use Rattle.sa_resolve.proofs.walk.Standing.{ok_as}
use Rattle.sa_resolve.proofs.build.Builder.ordered.Goals as goal

pub returns-in_default : goal.returns-in_default
returns-in_default c = λ tables scope listed sees last.
    ok_as c.expr.result _ _
    (last_built scope listed c.args.self.now.stage _ last
    ∙ ap (λ (one : Reading). one.expr) (sym (placed-other tables scope listed c.args.tree.now
    c.in_default.not-Number)))
    (c.expr.ensures tables scope listed sees (last_stage scope listed c.args.self.now.stage last))

pub returns-in-Number : goal.returns-in-Number
returns-in-Number c = λ tables scope listed sees last.
    let fits : SFits w128 c.in-Number.number = search rules in
    ok_as c.positioned.result _ _
    (ap (λ number. (positioned c.args.tree.now.place (item_at listed number)).expr)
    (to_z-of_z w128 c.in-Number.number fits)
    ∙ ap (λ (one : Reading). one.expr) (sym (placed-Number tables scope listed c.args.tree.now
    c.in-Number.number c.in-Number.is)))
    (c.positioned.ensures scope listed c.args.tree.now.place last)
