use Rattle.std.proofs.Common.{sym, subst}
use Rattle.sa_access.specs.inner.Asking.{asked_at}
use Rattle.sa_access.specs.inner.Offer.{IsLeastBelow}
use Rattle.sa_access.proofs.LeastLemmas.{least_at_first}
use Rattle.sa_access.proofs.least.least_offer.Goals as goal

pub loop-key-init : goal.loop-key-init
loop-key-init g c = subst (IsLeastBelow (asked_at c.args.asking.now) 0) (sym c.all_offer-kept.ensures) (least_at_first (asked_at c.args.asking.now))
