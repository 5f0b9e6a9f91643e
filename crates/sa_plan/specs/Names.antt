-- The names of tables' columns and keys, by which a document tells a plan.
use Rattle.std.specs.Prelude.{ℕ, List, [], map, slice_index_or}
use Rattle.sa_table.specs.declared.def.ColumnDef.{ColumnDef}
use Rattle.sa_table.specs.declared.def.KeyDef.{KeyDef}
use Rattle.sa_table.specs.declared.def.TableDef.{TableDef}
use Rattle.sa_table.specs.Table.{Table}
use Rattle.sa_plan.specs.declared.names.TableNames.{TableNames}

abbrev pub table_names : TableDef → TableNames
table_names def = record {
  columns = map (λ (column : ColumnDef). column.name) def.columns;
  keys = map (λ (key : KeyDef). key.name) def.keys;
}

-- the names in the tables' definitions
abbrev pub names_of : List Table → List TableNames
names_of tables = map (λ (table : Table). table_names table.def) tables

-- the names in the table with this number; none where no table has it
abbrev pub names_in : List TableNames → ℕ → TableNames
names_in names table = slice_index_or names table (record { columns = []; keys = [] })

-- the name of a table's column, and of its key
abbrev pub column_name : List TableNames → (table column : ℕ) → List ℕ
column_name names table column = slice_index_or (names_in names table).columns column []

abbrev pub key_name : List TableNames → (table key : ℕ) → List ℕ
key_name names table key = slice_index_or (names_in names table).keys key []
