use Rattle.sa_script.proofs.LimitLemmas.{script_keeps_limits}
use Rattle.sa_run_tests.proofs.program.script_of.Goals as goal

pub returns-in-Ok : goal.returns-in-Ok
returns-in-Ok c = script_keeps_limits _ _ c.in-Ok.ensures
