use Rattle.sa_resolve.proofs.judging.Queries.{none_having, some_having}
use Rattle.sa_resolve.proofs.resolver.having.Goals as goal

pub returns-in-None : goal.returns-in-None
returns-in-None c = λ tables scope listed values sees last. none_having tables scope c.args.having.now c.in-None.is

pub returns-in_ok-cond-in-Some : goal.returns-in_ok-cond-in-Some
returns-in_ok-cond-in-Some c = λ tables scope listed values sees last.
    some_having tables scope c.args.having.now _ _ c.in-Some.is (c.in_ok-cond-in-Some.ensures tables scope listed values sees last)
