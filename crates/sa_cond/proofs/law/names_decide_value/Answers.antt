use Rattle.sa_cond.proofs.Deciding.{value_decided}
use Rattle.sa_cond.proofs.law.names_decide_value.Goals as goal

pub returns : goal.returns
returns c = value_decided
