use Rattle.sa_resolve.proofs.judging.Havings.{no_having, one_having}
use Rattle.sa_resolve.proofs.clauses.Reader.having.Goals as goal

pub returns-in-None : goal.returns-in-None
returns-in-None c = λ tables tree slots knows. no_having tables tree slots c.args.aggregates.now.items _ c.in-None.is

pub returns-in_ok-look-in-Some : goal.returns-in_ok-look-in-Some
returns-in_ok-look-in-Some c = λ tables tree slots knows.
    one_having tables tree slots _ _ _ _ _ c.in-Some.is
    (c.in_ok-look-in-Some.ensures tables _ _ (c.answered.ensures.sees tables tree slots knows))
