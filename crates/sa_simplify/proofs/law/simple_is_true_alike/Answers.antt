use Rattle.sa_simplify.proofs.SimpleLemmas.{simple_true}
use Rattle.sa_simplify.proofs.law.simple_is_true_alike.Goals as goal

pub returns : goal.returns
returns c = simple_true c.order_is_total.ensures
