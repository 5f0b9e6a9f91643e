-- What is true of all tables, whatever was put into them.
use Rattle.std.specs.Prelude.{◌≡◌, ℕ, ◌<◌, ◌≤◌, List, [], length, true, false, ⊤, All, AllPairs, slice_index_or}
use Rattle.sa_value.specs.declared.value.Value.{Value}
use Rattle.sa_value.specs.declared.value.Value.TheVariants.{Big}
use Rattle.sa_table.specs.declared.def.TableDef.{TableDef}
use Rattle.sa_table.specs.declared.def.ColumnDef.{ColumnDef}
use Rattle.sa_table.specs.declared.def.ColumnKind.TheVariants as kinds
use Rattle.sa_table.specs.declared.def.KeyDef.{KeyDef}
use Rattle.sa_table.specs.Table.{Table, raised, is_unique, value_in}
use Rattle.sa_table.specs.AddRow.{collides, value_faults}
use Rattle.sa_table.specs.Create.{same_name}

-- A number that is kept is an `Int`.
abbrev pub IsKept : Value → Type 0
IsKept (Big number) = ⊥
IsKept value = ⊤

-- A value stands rightly in its column.
pub record FitsColumn (column : ℕ) (def : ColumnDef) (value : Value) : Type 0 where
  pub faultless : value_faults column def value ≡ []
  pub kept : IsKept value

-- what stands for a column that isn't there
abbrev pub no_column : ColumnDef
no_column = record { name = []; kind = kinds.Int; not_null = false }

abbrev pub column_at : TableDef → ℕ → ColumnDef
column_at def column = slice_index_or def.columns column no_column

-- A row has a value for each column, which stands rightly there.
pub record IsRow (def : TableDef) (row : List Value) : Type 0 where
  pub wide : length row ≡ length def.columns
  pub fits : (column : ℕ) → column < length def.columns
      → FitsColumn column (column_at def column) (value_in row column)

-- A key has few parts, which are columns.
pub record IsKey (columns : List ColumnDef) (key : KeyDef) : Type 0 where
  pub few : length key.parts ≤ 4
  pub there : All (λ part. part < length columns) key.parts

-- No two rows have equal tuples without NULL in a unique key.
abbrev pub IsDistinct : List (List Value) → KeyDef → Type 0
IsDistinct rows key =
    is_unique key ≡ true → AllPairs (λ earlier later. collides key later earlier ≡ false) rows

-- A table keeps its limits, its rows and its unique keys; the columns of its primary key are NOT NULL.
pub record IsSoundTable (table : Table) : Type 0 where
  pub few_columns : length table.def.columns ≤ 32
  pub few_keys : length table.def.keys ≤ 8
  pub few_rows : length table.rows ≤ 1000000
  pub keys : All (IsKey table.def.columns) table.def.keys
  pub raised_is : raised table.def ≡ table.def
  pub rows : All (IsRow table.def) table.rows
  pub distinct : All (IsDistinct table.rows) table.def.keys

-- All tables keep theirs, and have names of their own.
pub record AreSound (tables : List Table) : Type 0 where
  pub few : length tables ≤ 32
  pub each : All IsSoundTable tables
  pub names : AllPairs (λ earlier later. same_name earlier.def.name later.def.name ≡ false) tables
