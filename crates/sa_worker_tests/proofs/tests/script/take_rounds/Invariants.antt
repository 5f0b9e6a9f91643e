use Rattle.sa_step.specs.Sessions.{AreRunning}
use Rattle.sa_worker_tests.specs.Listed.{listed}
use Rattle.sa_worker_tests.proofs.tests.script.take_rounds.Given as goal

abbrev pub invariant-loop : goal.invariant-loop
invariant-loop l = AreRunning (listed l.listed) l.sessions
