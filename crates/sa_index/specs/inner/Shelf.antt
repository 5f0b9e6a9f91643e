-- Which indexes a shelf holds.
use Rattle.std.specs.Prelude.{◌≡◌, ℕ, ◌<◌, List, length, slice_index_or}
use Rattle.sa_table.specs.Table.{Table, table_at}
use Rattle.sa_index.specs.Indexed.{Indexed}

-- These are the indexes of the first so many keys of a table.
pub record AreFirstKeys {I : Type 0} (indexed : I → Indexed) (tables : List Table) (table count : ℕ) (indexes : List I) : Type 0 where
  pub long : length indexes ≡ count
  pub each : (key : ℕ) (d : I) → key < count
      → indexed (slice_index_or indexes key d) ≡ record { tables = tables; table = table; key = key }

-- These are the indexes of all keys of a table.
abbrev pub AreKeysIndexed : {I : Type 0} → (I → Indexed) → List Table → (table : ℕ) → List I → Type 0
AreKeysIndexed indexed tables table indexes =
    AreFirstKeys indexed tables table (length (table_at tables table).def.keys) indexes

-- These are the indexes of the first so many tables, in lists that some type holds.
pub record AreFirstTables {I Held : Type 0} (held : Held → List I) (indexed : I → Indexed) (tables : List Table) (count : ℕ) (shelf : List Held) : Type 0 where
  pub long : length shelf ≡ count
  pub each : (table : ℕ) (d : Held) → table < count
      → AreKeysIndexed indexed tables table (held (slice_index_or shelf table d))

-- These are the indexes of all tables.
abbrev pub AreShelved : {I Held : Type 0} → (Held → List I) → (I → Indexed) → List Table → List Held → Type 0
AreShelved held indexed tables shelf = AreFirstTables held indexed tables (length tables) shelf
