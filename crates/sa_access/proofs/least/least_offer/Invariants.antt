use Rattle.sa_access.specs.inner.Asking.{asked_at}
use Rattle.sa_access.specs.inner.Offer.{IsLeastBelow}
use Rattle.sa_access.proofs.least.least_offer.Given as goal

abbrev pub invariant-loop-key : goal.invariant-loop-key
invariant-loop-key g l = IsLeastBelow (asked_at l.asking) l.key l.kept
