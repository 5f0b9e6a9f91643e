use lib.IntN.{pos}
use Rattle.sa_value.proofs.Orders.{order_of-total}
use Rattle.sa_value.proofs.comparison.order_is_total.Goals as goal

pub returns : goal.returns
returns c = order_of-total (pos 0)
