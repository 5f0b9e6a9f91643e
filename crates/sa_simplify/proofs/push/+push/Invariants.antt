use Rattle.std.proofs.Common.{◌≡◌, ◌++◌, map, reverse, length}
use Rattle.sa_simplify.specs.Push.{pushed}
use Rattle.sa_simplify.proofs.push.+push.Given as goal

abbrev pub invariant-pushed_all-loop-member : goal.invariant-pushed_all-loop-member
invariant-pushed_all-loop-member l =
    goal.no_deeper-pushed_all-loop-member l × (map (λ member. pushed member l.sense) l.members ++ reverse l.turned ≡ map (λ member. pushed member l.sense) l.fn.members)

abbrev pub decreases-pushed_all-loop-member : goal.decreases-pushed_all-loop-member
decreases-pushed_all-loop-member l = length l.members
