use Rattle.std.proofs.lemmas.Cmp.{lists_total}
use Rattle.sa_key.proofs.OrderLemmas.{goes_down}
use Rattle.sa_key.proofs.law.before_goes_down.Goals as goal

pub returns : goal.returns
returns c = goes_down (lists_total c.order_is_total.ensures)
