use mir.Syntax.{w128}
use Rattle.std.proofs.Common.{◌<◌, ◌^◌, Fits, w64, length, ap, subst, arith, ◌∙◌}
use Rattle.std.specs.Option.{unwrap_or}
use Rattle.std.proofs.lemmas.Int.{to_z-of_z}
use Rattle.sa_resolve.specs.declared.build.Stage.{Stage}
use Rattle.sa_resolve.specs.Clauses.{item_at, positioned}
use Rattle.sa_resolve.specs.inner.Building.{IsLast}
use Rattle.sa_resolve.proofs.walk.Placed.{at_position}
use Rattle.sa_resolve.proofs.walk.Standing.{ok_as}
use Rattle.sa_resolve.proofs.build.Builder.positioned.Goals as goal

pub returns : goal.returns
returns c = λ scope listed place last.
    let At : Stage → Type 0 = λ stage. IsLast scope listed stage in
    let answered = subst At c.in-Answer.is last in
    let fits : Fits w64 c.count.result = record { fits = c.count.type_inv } in
    let few : length c.in-Answer.items.now < 2 ^ 64 = omega (arith, fits, c.count.ensures) in
    ok_as c.item.result _ _
    (at_position c.in-Answer.items.now listed _ place c.position.result answered.items_are few
    c.position.ensures _ (c.unwrap_or-index.ensures ∙ ap (unwrap_or c.position.result) c.count.ensures)
    ∙ ap (λ number. (positioned place (item_at listed number)).expr)
    (to_z-of_z w128 c.args.number c.ranges.number))
    c.item.ensures
