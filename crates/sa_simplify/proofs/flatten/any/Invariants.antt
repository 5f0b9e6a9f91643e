use Rattle.std.proofs.Common.{◌≡◌, ◌++◌, reverse, length}
use Rattle.std.specs.List.{list_any, flat_map}
use Rattle.sa_simplify.specs.Flatten.{is_true}
use Rattle.sa_simplify.specs.inner.Added.{added_disjuncts}
use Rattle.sa_simplify.proofs.flatten.any.Given as goal

abbrev pub invariant-loop-member : goal.invariant-loop-member
invariant-loop-member l =
    (list_any is_true (reverse l.left) ≡ list_any is_true l.fn.members)
    × (l.flat ++ flat_map added_disjuncts (reverse l.left) ≡ flat_map added_disjuncts l.fn.members)

abbrev pub decreases-loop-member : goal.decreases-loop-member
decreases-loop-member l = length l.left
