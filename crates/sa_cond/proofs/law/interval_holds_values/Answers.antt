use Rattle.sa_cond.proofs.Deciding.{in_interval}
use Rattle.sa_cond.proofs.law.interval_holds_values.Goals as goal

pub returns : goal.returns
returns c = in_interval
