use Rattle.std.proofs.Common.{◌≡◌, map, take}
use Rattle.sa_index.specs.inner.Columns.{number_in, column_of}
use Rattle.sa_index.proofs.columns.numbers_in.Given as goal

abbrev pub invariant-loop-row : goal.invariant-loop-row
invariant-loop-row l =
    l.numbers.items ≡ map number_in (column_of l.tables l.table (take l.row-index l.rows) l.part)
