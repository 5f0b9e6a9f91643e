use Rattle.std.proofs.Common.{◌≡◌, ◌++◌, reverse, length}
use Rattle.std.specs.List.{list_any, flat_map}
use Rattle.sa_simplify.specs.Flatten.{is_false}
use Rattle.sa_simplify.specs.inner.Added.{added_conjuncts}
use Rattle.sa_simplify.proofs.flatten.all.Given as goal

abbrev pub invariant-loop-member : goal.invariant-loop-member
invariant-loop-member l =
    (list_any is_false (reverse l.left) ≡ list_any is_false l.fn.members)
    × (l.flat ++ flat_map added_conjuncts (reverse l.left) ≡ flat_map added_conjuncts l.fn.members)

abbrev pub decreases-loop-member : goal.decreases-loop-member
decreases-loop-member l = length l.left
