use Rattle.sa_script.proofs.LimitLemmas.{script_keeps_limits}
use Rattle.sa_select_tests.proofs.program.printed.Goals as goal

pub journals_text-requires : goal.journals_text-requires
journals_text-requires c = script_keeps_limits _ _ c.in-Ok.ensures
