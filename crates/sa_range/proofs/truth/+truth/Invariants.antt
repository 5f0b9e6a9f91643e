use Rattle.std.proofs.Common.{◌≡◌, take, fold}
use Rattle.sa_value.specs.declared.truth.Truth.TheVariants.{False, True}
use Rattle.sa_cond.proofs.Truths.{and_next, or_next}
use Rattle.sa_range.specs.Atom.{truth_on}
use Rattle.sa_range.specs.inner.Placed.{chosen_at}
use Rattle.sa_range.proofs.truth.+truth.Given as goal

abbrev pub invariant-all_of-loop-member : goal.invariant-all_of-loop-member
invariant-all_of-loop-member l = l.truth ≡ fold (and_next (truth_on l.table (chosen_at l.chosen))) True (take l.member-index l.members)

abbrev pub invariant-any_of-loop-member : goal.invariant-any_of-loop-member
invariant-any_of-loop-member l = l.truth ≡ fold (or_next (truth_on l.table (chosen_at l.chosen))) False (take l.member-index l.members)
