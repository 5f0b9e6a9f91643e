use Rattle.sa_cost.proofs.StopLemmas.{product-any_order}
use Rattle.sa_cost.proofs.law.multiplying_takes_any_order.Goals as goal

pub returns : goal.returns
returns c = product-any_order
