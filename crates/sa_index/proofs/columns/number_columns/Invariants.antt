use Rattle.std.proofs.Common.{◌≡◌, take}
use Rattle.sa_index.specs.inner.Columns.{columns_of}
use Rattle.sa_index.proofs.columns.number_columns.Given as goal

abbrev pub invariant-loop-part : goal.invariant-loop-part
invariant-loop-part l =
    l.columns.items ≡ columns_of l.tables l.table l.rows (take l.part-index l.parts)
