-- Which rows of its table an access gives, in order.
-- Source: MariaDB Knowledge Base, "EXPLAIN", its column `type`.
use Rattle.std.specs.Prelude.{ℕ, Bool, List, map, filter, zip}
use Rattle.std.specs.List.{range_with_len, list_all, list_any}
use Rattle.sa_value.specs.declared.truth.CompareOp.TheVariants.{Eq}
use Rattle.sa_value.specs.declared.value.Value.{Value}
use Rattle.sa_value.specs.Compare.{truth_of}
use Rattle.sa_key.specs.declared.range.KeyRange.{KeyRange}
use Rattle.sa_key.specs.Range.{is_tuple_in}
use Rattle.sa_query.specs.Choices.{is_true}
use Rattle.sa_table.specs.Table.{Table, row_count}
use Rattle.sa_index.specs.Indexed.{parts_of, tuple_of}
use Rattle.sa_index.specs.Entries.{entries_of}
use Rattle.sa_plan.specs.declared.access.Access.{Access}
use Rattle.sa_plan.specs.declared.access.Access.TheVariants.{All, Index, Range, Ref, EqRef, Const}
use Rattle.sa_plan.specs.declared.access.RefPart.{RefPart}
use Rattle.sa_plan.specs.declared.access.RefPart.TheVariants.{Literal, Column}

-- what a row has in the parts of a key
abbrev pub key_values : List Table → (table key row : ℕ) → List Value
key_values tables table key row = tuple_of tables table (parts_of tables table key) row

-- all rows of a table, in the order of a key, those with equal values by their numbers
abbrev pub rows_by_key : List Table → (table key : ℕ) → List ℕ
rows_by_key tables table key = entries_of (record { tables = tables; table = table; key = key })

-- what a part of a key is sought by, where the columns of earlier tables hold this
abbrev pub sought : (cells : (position column : ℕ) → Value) → RefPart → Value
sought cells (Literal value) = value
sought cells (Column position column) = cells position column

-- Whether the first parts of a key have these values, each by an equality that is TRUE. NULL is
-- equal to nothing.
abbrev pub have_values : List Value → List Value → Bool
have_values values wanted =
    list_all (λ pair. is_true (truth_of Eq pair.0 pair.1)) (zip values wanted)

-- whether a row of a table lies in one of these ranges of a key
abbrev pub is_in_ranges : List Table → (table key : ℕ) → List KeyRange → (row : ℕ) → Bool
is_in_ranges tables table key ranges row =
    list_any (λ range. is_tuple_in range (key_values tables table key row)) ranges

-- whether the equalities of an access are TRUE for a row
abbrev pub meets : List Table → (table key : ℕ) → List RefPart
    → (cells : (position column : ℕ) → Value) → (row : ℕ) → Bool
meets tables table key from cells row =
    have_values (key_values tables table key row) (map (sought cells) from)

-- The rows of an access to a table, where the columns of earlier tables hold this. ALL gives every
-- row, by its number. All others give rows in the order of their key: an index every row, a range
-- those in one of its ranges, and the three by equalities those for which all of them are TRUE.
abbrev pub scan : Access → List Table → (table : ℕ) → (cells : (position column : ℕ) → Value)
    → List ℕ
scan All tables table cells = range_with_len 0 (row_count tables table)
scan (Index key) tables table cells = rows_by_key tables table key
scan (Range key list) tables table cells =
    filter (is_in_ranges tables table key list.ranges) (rows_by_key tables table key)
scan (Ref key from) tables table cells =
    filter (meets tables table key from cells) (rows_by_key tables table key)
scan (EqRef key from) tables table cells =
    filter (meets tables table key from cells) (rows_by_key tables table key)
scan (Const key from) tables table cells =
    filter (meets tables table key from cells) (rows_by_key tables table key)
