use Rattle.sa_worker.specs.inner.Steps.{IsUnderWay}
use Rattle.sa_worker.proofs.steps.make_steps.Given as goal

abbrev pub invariant-loop : goal.invariant-loop
invariant-loop l = IsUnderWay l.initial.run l.counter l.run
