use Rattle.std.proofs.Common.{◌≡◌, ◌++◌, map, reverse, length}
use Rattle.sa_value.specs.declared.truth.CompareOp.TheVariants.{Eq}
use Rattle.sa_cond.specs.declared.cond.Cond.TheVariants.{Compare}
use Rattle.sa_simplify.proofs.expand.equalities.Given as goal

abbrev pub invariant-loop-member : goal.invariant-loop-member
invariant-loop-member l =
    map (λ member. Compare Eq l.value member) l.list ++ reverse l.turned ≡ map (λ member. Compare Eq l.value member) l.fn.list

abbrev pub decreases-loop-member : goal.decreases-loop-member
decreases-loop-member l = length l.list
