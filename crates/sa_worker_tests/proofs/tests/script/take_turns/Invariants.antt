use Rattle.sa_step.specs.Sessions.{AreRunning}
use Rattle.sa_worker_tests.specs.Listed.{listed}
use Rattle.sa_worker_tests.proofs.tests.script.take_turns.Given as goal

abbrev pub invariant-loop-number : goal.invariant-loop-number
invariant-loop-number l = AreRunning (listed l.listed) l.sessions
