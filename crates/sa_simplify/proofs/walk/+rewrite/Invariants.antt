use Rattle.std.proofs.Common.{◌≡◌, ◌++◌, map, reverse, length}
use Rattle.sa_cond.specs.declared.cond.Cond.{Cond, fold-Cond}
use Rattle.sa_simplify.specs.Simple.{AreWellTyped}
use Rattle.sa_simplify.proofs.walk.+rewrite.Given as goal

abbrev pub invariant-rewritten_all-loop-member : goal.invariant-rewritten_all-loop-member
invariant-rewritten_all-loop-member g l =
    goal.no_deeper-rewritten_all-loop-member g l × (map (fold-Cond Cond g.R.Rewrite.node_done) l.members ++ reverse l.turned ≡ map (fold-Cond Cond g.R.Rewrite.node_done) l.fn.members)
    × AreWellTyped l.members

abbrev pub decreases-rewritten_all-loop-member : goal.decreases-rewritten_all-loop-member
decreases-rewritten_all-loop-member g l = length l.members
