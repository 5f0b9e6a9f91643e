use Rattle.sa_cost.proofs.StopLemmas.{distributes}
use Rattle.sa_cost.proofs.law.multiplying_is_adding.Goals as goal

pub returns : goal.returns
returns c = distributes
