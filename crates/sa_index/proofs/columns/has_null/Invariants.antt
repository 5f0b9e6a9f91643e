use Rattle.std.proofs.Common.{◌≡◌, drop}
use Rattle.std.specs.List.{list_any}
use Rattle.sa_table.specs.AddRow.{is_null}
use Rattle.sa_index.specs.inner.Columns.{column_of}
use Rattle.sa_index.proofs.columns.has_null.Given as goal

abbrev pub invariant-loop-row : goal.invariant-loop-row
invariant-loop-row l =
    list_any is_null (column_of l.tables l.table (drop l.row-index l.rows) l.part)
    ≡ list_any is_null (column_of l.tables l.table l.rows l.part)
