use Rattle.std.proofs.Common.{◌≡◌, map, take}
use Rattle.sa_table.specs.AddRow.{is_null}
use Rattle.sa_index.specs.inner.Columns.{column_of}
use Rattle.sa_index.proofs.columns.nulls_in.Given as goal

abbrev pub invariant-loop-row : goal.invariant-loop-row
invariant-loop-row l =
    l.nulls.items ≡ map is_null (column_of l.tables l.table (take l.row-index l.rows) l.part)
