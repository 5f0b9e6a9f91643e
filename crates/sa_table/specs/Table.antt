-- What a table is: its definition and its rows.
use Rattle.std.specs.Prelude.{ℕ, List, [], map, length, slice_index_or, Bool, ◌||◌, ◌&&◌, ◌==◌}
use Rattle.std.specs.List.{list_any, enumerate_from}
use Rattle.sa_value.specs.declared.value.Value.{Value}
use Rattle.sa_value.specs.declared.value.Value.TheVariants.{Null}
use Rattle.sa_table.specs.declared.def.TableDef.{TableDef}
use Rattle.sa_table.specs.declared.def.ColumnDef.{ColumnDef}
use Rattle.sa_table.specs.declared.def.KeyDef.{KeyDef}

-- A row has a value for each column; rows are numbered from 0 on.
pub record Table : Type 0 where
  pub def : TableDef
  pub rows : List (List Value)

-- whether a column is a part of a key
abbrev pub is_part : ℕ → KeyDef → Bool
is_part column key = list_any (λ part. part == column) key.parts

-- whether a column is a part of the primary key
abbrev pub is_primary_part : List KeyDef → ℕ → Bool
is_primary_part keys column = list_any (λ key. key.primary && is_part column key) keys

-- the columns of a primary key are NOT NULL, whatever was written at them
abbrev pub raised_column : List KeyDef → ℕ × ColumnDef → ColumnDef
raised_column keys numbered =
    record numbered.1 { not_null = numbered.1.not_null || is_primary_part keys numbered.0 }

abbrev pub raised : TableDef → TableDef
raised def = record def { columns = map (raised_column def.keys) (enumerate_from 0 def.columns) }

-- the table that a definition makes
abbrev pub new_table : TableDef → Table
new_table def = record { def = raised def; rows = [] }

-- whether two rows may not have equal values in a key
abbrev pub is_unique : KeyDef → Bool
is_unique key = key.unique || key.primary

-- the value of a row's column
abbrev pub value_in : List Value → ℕ → Value
value_in row column = slice_index_or row column Null

-- what a row has in a key
abbrev pub key_tuple : List ℕ → List Value → List Value
key_tuple parts row = map (value_in row) parts

-- what stands for a row or a table that isn't there
abbrev pub no_def : TableDef
no_def = record { name = []; columns = []; keys = [] }

abbrev pub no_table : Table
no_table = record { def = no_def; rows = [] }

abbrev pub table_at : List Table → ℕ → Table
table_at tables table = slice_index_or tables table no_table

abbrev pub row_at : List Table → (table row : ℕ) → List Value
row_at tables table row = slice_index_or (table_at tables table).rows row []

-- the value of a cell
abbrev pub cell_at : List Table → (table row column : ℕ) → Value
cell_at tables table row column = value_in (row_at tables table row) column

abbrev pub column_count : List Table → ℕ → ℕ
column_count tables table = length (table_at tables table).def.columns

abbrev pub row_count : List Table → ℕ → ℕ
row_count tables table = length (table_at tables table).rows
