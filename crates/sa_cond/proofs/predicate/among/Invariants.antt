use Rattle.std.proofs.Common.{◌≡◌, take, fold}
use Rattle.sa_value.specs.declared.truth.CompareOp.TheVariants.{Eq}
use Rattle.sa_value.specs.declared.truth.Truth.TheVariants.{False}
use Rattle.sa_value.specs.Compare.{truth_of}
use Rattle.sa_cond.specs.Choice.{Choice}
use Rattle.sa_cond.specs.Expression.{expr_value}
use Rattle.sa_cond.proofs.Truths.{or_next}
use Rattle.sa_cond.proofs.predicate.among.Given as goal

abbrev pub invariant-loop-member : goal.invariant-loop-member
invariant-loop-member g l =
    let choice : Choice = record { cell = g.R.Cells.cell_of l.rows; slot = g.R.Cells.slot_of l.rows } in
    l.truth ≡ fold (or_next (λ member. truth_of Eq (expr_value choice l.value) (expr_value choice member))) False (take l.member-index l.list)
