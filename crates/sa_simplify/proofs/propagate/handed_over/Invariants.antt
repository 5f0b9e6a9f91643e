use Rattle.std.proofs.Common.{◌≡◌, drop, Some}
use Rattle.sa_simplify.specs.Propagate.{first_given, handed_by, fix_in}
use Rattle.sa_simplify.specs.inner.Equality.{join_at}
use Rattle.sa_simplify.proofs.propagate.handed_over.Given as goal

abbrev pub invariant-loop-second : goal.invariant-loop-second
invariant-loop-second l =
    first_given (λ second. handed_by l.conjuncts (Some (join_at l.join)) (fix_in second)) (drop l.second-index l.conjuncts)
    ≡ first_given (λ second. handed_by l.conjuncts (Some (join_at l.join)) (fix_in second)) l.conjuncts
