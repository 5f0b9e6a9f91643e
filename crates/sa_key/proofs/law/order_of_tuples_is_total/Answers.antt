use Rattle.std.proofs.lemmas.Cmp.{lists_total}
use Rattle.sa_key.proofs.law.order_of_tuples_is_total.Goals as goal

pub returns : goal.returns
returns c = lists_total c.order_is_total.ensures
