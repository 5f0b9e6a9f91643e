-- Which rows a cursor has left: those at positions that are read one after another, and those of the
-- ranges that aren't begun.
use Rattle.std.specs.Prelude.{◌≡◌, ℕ, ◌<◌, ◌≤◌, ◌-◌, ◌++◌, List, [], length, take, drop, filter, Option, Some, None}
use Rattle.std.specs.List.{range_with_len, flat_map}
use Rattle.sa_value.specs.declared.value.Value.{Value}
use Rattle.sa_key.specs.declared.range.KeyRange.{KeyRange}
use Rattle.sa_table.specs.Table.{Table, row_count}
use Rattle.sa_index.specs.Indexed.{Indexed, key_parts, tuple_of}
use Rattle.sa_index.specs.Entries.{entries_of, count_before}
use Rattle.sa_plan.specs.declared.access.Access.{Access}
use Rattle.sa_plan.specs.declared.access.Access.TheVariants as accesses
use Rattle.sa_plan.specs.declared.plan.Level.{Level}
use Rattle.sa_plan.specs.Access.{key_of}
use Rattle.sa_plan.specs.Lawful.{IsLawfulAccess}
use Rattle.sa_plan.specs.Scan.{rows_by_key, have_values}
use Rattle.sa_cursor.specs.declared.stretch.Stretch.{Stretch}

-- the members from one position to another
abbrev pub between : (from to : ℕ) → List ℕ → List ℕ
between from to rows = take (to - from) (drop from rows)

-- all rows of a table, in the order in which they are read by a key, or by no key
abbrev pub ordered : List Table → (table : ℕ) → Option ℕ → List ℕ
ordered tables table None = range_with_len 0 (row_count tables table)
ordered tables table (Some key) = rows_by_key tables table key

-- the entries of an index that lie in a range
abbrev pub rows_of_range : Indexed → KeyRange → List ℕ
rows_of_range index range =
    between (count_before index range.from) (count_before index range.to) (entries_of index)

abbrev pub rows_of_ranges : Indexed → List KeyRange → List ℕ
rows_of_ranges index ranges = flat_map (rows_of_range index) ranges

-- the entries that have these values in the first parts of the key
abbrev pub equal_entries : Indexed → (wanted : List Value) → List ℕ
equal_entries index wanted =
    filter (λ row. have_values (tuple_of index.tables index.table (key_parts index) row) wanted)
    (entries_of index)

-- the rows of the ranges behind the first so many
abbrev pub rows_behind : List Table → (table : ℕ) → Access → (begun : ℕ) → List ℕ
rows_behind tables table (accesses.Range key list) begun =
    rows_of_ranges (record { tables = tables; table = table; key = key }) (drop begun list.ranges)
rows_behind tables table access begun = []

-- the rows of a stretch, and those behind it
abbrev pub rows_left : List Table → Level → Stretch → List ℕ
rows_left tables level stretch =
    between stretch.position stretch.end (ordered tables level.table (key_of level.access))
    ++ rows_behind tables level.table level.access stretch.begun

-- The level's access is lawful behind some levels.
pub record IsReadable (tables : List Table) (level : Level) : Type 0 where
  pub there : level.table < length tables
  pub before : List Level
  pub lawful : IsLawfulAccess tables before level.table level.access

-- A stretch ends within its table, all of whose rows are read. Where it has no row, none is left
-- behind it.
pub record IsSettled (tables : List Table) (level : Level) (stretch : Stretch) : Type 0 where
  pub within : stretch.end ≤ row_count tables level.table
  pub long : length (ordered tables level.table (key_of level.access))
      ≡ row_count tables level.table
  pub last : stretch.end ≤ stretch.position
      → rows_behind tables level.table level.access stretch.begun ≡ []

-- A stretch of the rows of the first range that has some, behind the first so many ranges.
pub record IsNextRange (index : Indexed) (ranges : List KeyRange) (begun : ℕ) (stretch : Stretch)
    : Type 0 where
  pub rows : between stretch.position stretch.end (entries_of index)
      ++ rows_of_ranges index (drop stretch.begun ranges)
      ≡ rows_of_ranges index (drop begun ranges)
  pub within : stretch.end ≤ row_count index.tables index.table
  pub last : stretch.end ≤ stretch.position → rows_of_ranges index (drop stretch.begun ranges) ≡ []

-- A stretch of the entries that have these values in the first parts of the key.
pub record AreEqualRows (index : Indexed) (wanted : List Value) (stretch : Stretch) : Type 0 where
  pub rows : between stretch.position stretch.end (entries_of index) ≡ equal_entries index wanted
  pub within : stretch.end ≤ row_count index.tables index.table

-- What a cursor holds of a level's access.
pub record IsRead (tables : List Table) (level : Level) (stretch : Stretch) : Type 0 where
  pub readable : IsReadable tables level
  pub settled : IsSettled tables level stretch
