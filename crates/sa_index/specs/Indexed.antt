-- What an index is of: a key of a table, with the rows that the table has.
use Rattle.std.specs.Prelude.{ℕ, ◌<◌, List, [], false, length, slice_index_or}
use Rattle.sa_value.specs.declared.value.Value.{Value}
use Rattle.sa_table.specs.declared.def.KeyDef.{KeyDef}
use Rattle.sa_table.specs.Table.{Table, table_at, row_at, key_tuple}

-- A key of one of these tables.
pub record Indexed : Type 0 where
  pub tables : List Table
  pub table : ℕ
  pub key : ℕ

-- The table is there, and has the key.
pub record IsKeyOf (tables : List Table) (table key : ℕ) : Type 0 where
  pub table_there : table < length tables
  pub key_there : key < length (table_at tables table).def.keys

-- what stands for a key that isn't there
abbrev pub no_key : KeyDef
no_key = record { name = []; unique = false; primary = false; parts = [] }

-- the columns of a key
abbrev pub parts_of : List Table → (table key : ℕ) → List ℕ
parts_of tables table key = (slice_index_or (table_at tables table).def.keys key no_key).parts

abbrev pub key_parts : Indexed → List ℕ
key_parts index = parts_of index.tables index.table index.key

-- what a row has in these columns
abbrev pub tuple_of : List Table → (table : ℕ) → (parts : List ℕ) → (row : ℕ) → List Value
tuple_of tables table parts row = key_tuple parts (row_at tables table row)
