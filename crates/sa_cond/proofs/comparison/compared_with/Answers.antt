use mir.Syntax.{w64}
use mir.Val.{SFits, to_z, of_z}
use Rattle.std.proofs.Common.{sym, ap, ◌∙◌, rules}
use Rattle.std.proofs.lemmas.Int.{to_z-of_z}
use Rattle.sa_value.specs.declared.value.Value.TheVariants.{Int}
use Rattle.sa_value.specs.Compare.{truth_of}
use Rattle.sa_cond.specs.Choice.{Choice}
use Rattle.sa_cond.specs.Expression.{expr_value}
use Rattle.sa_cond.proofs.Comparisons.{truth-small}
use Rattle.sa_cond.proofs.comparison.compared_with.Goals as goal

pub returns-in-Some-Some : goal.returns-in-Some-Some
returns-in-Some-Some g c =
    let choice : Choice = record { cell = g.R.Cells.cell_of c.args.rows.now; slot = g.R.Cells.slot_of c.args.rows.now } in
    let left_fits : SFits w64 c.in-Some-Some.left = search rules in
    let right_fits : SFits w64 c.in-Some-Some.right = search rules in
    c.compare_numbers.ensures
    ∙ ap (λ left. truth_of c.args.op (Int left) (Int (to_z w64 (of_z w64 c.in-Some-Some.right)))) (to_z-of_z w64 c.in-Some-Some.left left_fits)
    ∙ ap (λ right. truth_of c.args.op (Int c.in-Some-Some.left) (Int right)) (to_z-of_z w64 c.in-Some-Some.right right_fits)
    ∙ truth-small c.args.op (expr_value choice c.args.left.now) (expr_value choice c.args.right.now) c.in-Some-Some.left c.in-Some-Some.right (sym c.in-Some-Some.is-0 ∙ c.requires.number_is) c.in-Some-Some.ensures
