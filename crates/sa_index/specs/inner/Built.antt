-- What a list of rows is, as an index holds it.
use Rattle.std.specs.Prelude.{◌≡◌, ℕ, ◌+◌, ◌<◌, ◌≤◌, List, [], ◌∷◌, length, map, All, AllPairs, Bool, true, false, not, if◌then◌else◌}
use Rattle.std.specs.List.{range_with_len}
use Rattle.std.specs.Ordering.{is_lt}
use Rattle.std.specs.declared.cmp.Ordering.{Ordering}
use Rattle.sa_value.specs.declared.value.Value.{Value}
use Rattle.sa_table.specs.Table.{Table, column_count}
use Rattle.sa_index.specs.Indexed.{Indexed, IsKeyOf, key_parts}
use Rattle.sa_index.specs.Entries.{order_in, entries_of, distinct_prefixes}
use Rattle.sa_index.specs.inner.Columns.{AreKept}

-- These columns, four at most, are in the table.
pub record AreParts (tables : List Table) (table : ℕ) (parts : List ℕ) : Type 0 where
  pub table_there : table < length tables
  pub few : length parts ≤ 4
  pub there : All (λ part. part < column_count tables table) parts

-- No row is followed by one that comes before it.
abbrev pub Rise : (ℕ → ℕ → Ordering) → List ℕ → Type 0
Rise order rows = AllPairs (λ row later. is_lt (order later row) ≡ false) rows

-- The rows are the entries of the index, the counts those of its prefixes, none, one part, two and on, and
-- the columns what its rows have in its parts, where these are numbers.
pub record AreBuilt (index : Indexed) (rows counts : List ℕ) (columns : List (List Value)) : Type 0 where
  pub there : IsKeyOf index.tables index.table index.key
  pub few : length rows ≤ 1000000
  pub rise : Rise (order_in index) rows
  pub rows_are : rows ≡ entries_of index
  pub counts_are : counts ≡ map (distinct_prefixes index) (range_with_len 0 (length (key_parts index) + 1))
  pub kept : AreKept index.tables index.table (key_parts index) rows columns

-- whether the first of some rows is the last one, or the next isn't like it
abbrev pub is_last : (ℕ → ℕ → Bool) → List ℕ → Bool
is_last alike [] = true
is_last alike (row ∷ []) = true
is_last alike (row ∷ next ∷ rows) = not (alike row next)

-- how many rows are the last ones of their kind, where these stand side by side
abbrev pub ends : (ℕ → ℕ → Bool) → List ℕ → ℕ
ends alike [] = 0
ends alike (row ∷ rows) = (if is_last alike (row ∷ rows) then 1 else 0) + ends alike rows
