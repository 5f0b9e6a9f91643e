use Rattle.sa_key.proofs.RangeLemmas.{order_of_cuts-total}
use Rattle.sa_key.proofs.law.order_of_cuts_is_total.Goals as goal

pub returns : goal.returns
returns c = order_of_cuts-total c.order_is_total.ensures
