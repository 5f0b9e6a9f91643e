use Rattle.std.proofs.Common.{◌≡◌, drop}
use Rattle.sa_simplify.specs.Propagate.{first_given, handed_by, join_in, fix_in}
use Rattle.sa_simplify.proofs.propagate.first_handed.Given as goal

abbrev pub invariant-loop-first : goal.invariant-loop-first
invariant-loop-first l =
    first_given (λ first. first_given (λ second. handed_by l.conjuncts (join_in first) (fix_in second)) l.conjuncts) (drop l.first-index l.conjuncts)
    ≡ first_given (λ first. first_given (λ second. handed_by l.conjuncts (join_in first) (fix_in second)) l.conjuncts) l.conjuncts
