use Rattle.std.proofs.Common.{◌≡◌, take}
use Rattle.sa_resolve.specs.Fault.{least}
use Rattle.sa_resolve.specs.inner.Grouped.{loose_among}
use Rattle.sa_resolve.specs.inner.Least.{fault_of}
use Rattle.sa_resolve.specs.inner.Looking.{loose_at}
use Rattle.sa_resolve.proofs.grouping.loose_among.Given as goal

abbrev pub invariant-loop-one : goal.invariant-loop-one
invariant-loop-one l = fault_of l.fault ≡ least (loose_among l.slots.group.items
    (loose_at (take l.one-index l.loose)))
