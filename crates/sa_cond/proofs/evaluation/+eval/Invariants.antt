use Rattle.std.proofs.Common.{◌≡◌, take, fold}
use Rattle.sa_value.specs.declared.truth.Truth.TheVariants.{False, True}
use Rattle.sa_cond.specs.Choice.{Choice}
use Rattle.sa_cond.specs.Condition.{holds}
use Rattle.sa_cond.proofs.Truths.{and_next, or_next}
use Rattle.sa_cond.proofs.evaluation.+eval.Given as goal

abbrev pub invariant-all_of-loop-member : goal.invariant-all_of-loop-member
invariant-all_of-loop-member g l =
    let choice : Choice = record { cell = g.R.Cells.cell_of l.rows; slot = g.R.Cells.slot_of l.rows } in
    l.truth ≡ fold (and_next (holds choice)) True (take l.member-index l.members)

abbrev pub invariant-any_of-loop-member : goal.invariant-any_of-loop-member
invariant-any_of-loop-member g l =
    let choice : Choice = record { cell = g.R.Cells.cell_of l.rows; slot = g.R.Cells.slot_of l.rows } in
    l.truth ≡ fold (or_next (holds choice)) False (take l.member-index l.members)
