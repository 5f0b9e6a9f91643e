-- Which rows lie in ranges of an index.
use Rattle.std.specs.Prelude.{ℕ, Bool, List}
use Rattle.std.specs.List.{list_any}
use Rattle.sa_key.specs.declared.range.KeyRange.{KeyRange}
use Rattle.sa_key.specs.Range.{is_tuple_in}
use Rattle.sa_index.specs.Indexed.{Indexed, key_parts, tuple_of}

-- whether a row lies in a range
abbrev pub in_range : Indexed → KeyRange → (row : ℕ) → Bool
in_range index range row =
    is_tuple_in range (tuple_of index.tables index.table (key_parts index) row)

-- whether it lies in one of these
abbrev pub in_ranges : Indexed → List KeyRange → (row : ℕ) → Bool
in_ranges index ranges row = list_any (λ range. in_range index range row) ranges
