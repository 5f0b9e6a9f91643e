-- Which cells a chosen row has.
use Rattle.std.specs.Prelude.{◌≡◌, ℕ, ◌<◌, List, length}
use Rattle.sa_table.specs.Table.{Table, row_count, column_count}

-- The row of this table, which has this position in FROM, has the cell that a tree names so.
pub record IsCell (tables : List Table) (position table row : ℕ) (named column : ℕ) : Type 0 where
  pub table_there : table < length tables
  pub row_there : row < row_count tables table
  pub position_is : named ≡ position
  pub column_there : column < column_count tables table
