use Rattle.std.proofs.Common.{◌≡◌, ◌++◌, drop}
use Rattle.sa_access.specs.Sought.{sought_parts}
use Rattle.sa_access.specs.inner.Asking.{asked_at}
use Rattle.sa_access.proofs.sought.sought_parts.Given as goal

abbrev pub invariant-loop-column : goal.invariant-loop-column
invariant-loop-column l =
    l.parts ++ sought_parts (asked_at l.asking) (drop l.column-index l.columns) ≡ sought_parts (asked_at l.asking) l.columns
