use Rattle.std.proofs.Common.{◌≡◌, List, take}
use Rattle.std.specs.List.{flat_map}
use Rattle.sa_resolve.specs.Clauses.{column_of}
use Rattle.sa_resolve.specs.Reading.{Reading}
use Rattle.sa_resolve.specs.inner.Knowing.{AreLooked}
use Rattle.sa_resolve.proofs.grouping.group_columns.Given as goal

abbrev pub invariant-loop-item : goal.invariant-loop-item
invariant-loop-item l =
    (readings : List Reading) → AreLooked l.group readings → l.columns.items
    ≡ flat_map column_of (take l.item-index readings)
