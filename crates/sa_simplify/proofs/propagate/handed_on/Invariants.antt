use Rattle.std.proofs.Common.{List}
use Rattle.sa_cond.specs.declared.cond.Cond.{Cond}
use Rattle.sa_simplify.specs.Propagate.{HandsOn}
use Rattle.sa_simplify.proofs.Handing.{IsFrom, lacking, candidates}
use Rattle.sa_simplify.proofs.propagate.handed_on.Given as goal

abbrev pub invariant-loop-conjuncts : goal.invariant-loop-conjuncts
invariant-loop-conjuncts l =
    ((whole : List Cond) → HandsOn l.conjuncts whole → HandsOn l.initial.conjuncts whole) × IsFrom l.initial.conjuncts l.conjuncts

abbrev pub decreases-loop-conjuncts : goal.decreases-loop-conjuncts
decreases-loop-conjuncts l = lacking l.conjuncts (candidates l.initial.conjuncts)
