use Rattle.sa_script.proofs.LimitLemmas.{script_keeps_limits}
use Rattle.sa_script.proofs.limits.scripts_keep_limits.Goals as goal

pub returns : goal.returns
returns c = script_keeps_limits
