use Rattle.sa_access.specs.inner.Asking.{asked_at}
use Rattle.sa_access.proofs.SoughtLemmas.{IsSoFar}
use Rattle.sa_access.proofs.sought.tallied.Given as goal

abbrev pub invariant-loop-column : goal.invariant-loop-column
invariant-loop-column l = IsSoFar (asked_at l.asking) l.columns l.column-index l.tally.count l.tally.literal
