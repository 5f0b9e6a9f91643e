use Rattle.std.proofs.Common.{◌≡◌, drop}
use Rattle.sa_simplify.specs.Propagate.{is_there}
use Rattle.sa_simplify.proofs.propagate.is_there.Given as goal

abbrev pub invariant-loop-conjunct : goal.invariant-loop-conjunct
invariant-loop-conjunct l =
    is_there (drop l.conjunct-index l.conjuncts) (record { place = l.place; literal = l.literal })
    ≡ is_there l.conjuncts (record { place = l.place; literal = l.literal })
