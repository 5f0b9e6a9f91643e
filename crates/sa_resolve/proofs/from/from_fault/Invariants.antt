use Rattle.std.proofs.Common.{◌≡◌, List, take}
use Rattle.std.specs.List.{enumerate_from, flat_map}
use Rattle.sa_table.specs.Table.{Table}
use Rattle.sa_resolve.specs.Fault.{least}
use Rattle.sa_resolve.specs.Tables.{table_faults}
use Rattle.sa_resolve.specs.inner.Least.{fault_of}
use Rattle.sa_resolve.specs.inner.Names.{IsSight}
use Rattle.sa_resolve.proofs.from.from_fault.Given as goal

-- The least fault of the tables so far.
abbrev pub invariant-loop-number : goal.invariant-loop-number
invariant-loop-number l = (tables : List Table) → IsSight tables l.from l.sight
    → fault_of l.fault ≡ least (flat_map (table_faults tables l.from) (enumerate_from 0 (take l.number l.from)))
