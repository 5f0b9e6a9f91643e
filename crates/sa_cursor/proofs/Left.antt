-- The rows that a stretch has left, as its position goes on.
use Rattle.std.proofs.Common.{◌≡◌, ◌≢◌, ℕ, ◌+◌, ◌-◌, ◌<◌, ◌≤◌, suc, List, [], ◌∷◌, ◌++◌, length, take, drop, get_or, true, false, IsTrue, nat_lt, ◌||◌, Option, Some, None, refl, sym, ap, ◌∙◌, arith}
use Rattle.std.proofs.lemmas.Bool.Decides.{nat_tests}
use Rattle.std.proofs.lemmas.List.{drop_more, get_or_default, take_all}
use Rattle.std.proofs.lemmas.List.FromFn.{get_or-range_with_len, length-range_with_len}
use Rattle.std.proofs.lemmas.List.Sorted.{length_permutation}
use Rattle.std.proofs.lemmas.Option.{get_or_from_slice_get, slice_get-get_or}
use Rattle.std.specs.List.{list_any, range_with_len, slice_get}
use Rattle.sa_value.specs.declared.value.Value.{Value}
use Rattle.sa_key.specs.declared.range.KeyRange.{KeyRange}
use Rattle.sa_interval.specs.declared.list.RangeList.{RangeList}
use Rattle.sa_table.specs.Table.{Table, row_count}
use Rattle.sa_table.specs.AddRow.{is_null}
use Rattle.sa_index.specs.Indexed.{Indexed}
use Rattle.sa_index.specs.Entries.{entries_of, rows_of, order_in, count_before}
use Rattle.sa_index.specs.Law.{IsInOrder}
use Rattle.sa_plan.specs.declared.access.Access.TheVariants as accesses
use Rattle.sa_plan.specs.declared.plan.Level.{Level}
use Rattle.sa_plan.specs.Access.{key_of}
use Rattle.sa_cursor.specs.declared.stretch.Stretch.{Stretch}
use Rattle.sa_cursor.specs.inner.Stretch.{between, ordered, rows_of_range, rows_of_ranges, rows_behind, rows_left, IsSettled}
use Rattle.sa_cursor.proofs.Between.{nothing}

pub length-ordered : ((index : Indexed) → IsInOrder (order_in index) (rows_of index) (entries_of index))
    → (tables : List Table) (table : ℕ) (key : Option ℕ) → length (ordered tables table key) ≡ row_count tables table
length-ordered in_order tables table None = length-range_with_len 0 (row_count tables table)
length-ordered in_order tables table (Some key) =
    let index : Indexed = record { tables = tables; table = table; key = key } in
    length_permutation (rows_of index) (entries_of index) (in_order index).same
    ∙ length-range_with_len 0 (row_count tables table)

-- the member at the first of some positions, and those behind it
pub first-between : (from to d : ℕ) (xs : List ℕ) → from < to → to ≤ length xs → between from to xs ≡ get_or xs from d ∷ between (from + 1) to xs
first-between from to d xs order within =
    let more : to - from ≡ suc (to - (from + 1)) = omega arith in
    ap (λ ys. take (to - from) ys) (drop_more xs from d (omega arith))
    ∙ ap (λ k. take k (get_or xs from d ∷ drop (from + 1) xs)) more

-- all of them
pub all-between : (to : ℕ) (xs : List ℕ) → length xs ≡ to → between 0 to xs ≡ xs
all-between to xs long = take_all (to - 0) xs (omega arith)

module _ (tables : List Table) (level : Level) (stretch : Stretch) (settled : IsSettled tables level stretch) where
  -- while a position is left, the next row stands there, and the others are those behind it
  pub row_first : (d : ℕ) → stretch.position < stretch.end
      → rows_left tables level stretch ≡ get_or (ordered tables level.table (key_of level.access)) stretch.position d
      ∷ rows_left tables level (record stretch { position = stretch.position + 1 })
  row_first d order =
      let long : length (ordered tables level.table (key_of level.access)) ≡ row_count tables level.table = settled.long in
      let within : stretch.end ≤ row_count tables level.table = settled.within in
      ap (λ rows. rows ++ rows_behind tables level.table level.access stretch.begun)
      (first-between stretch.position stretch.end d (ordered tables level.table (key_of level.access)) order (omega arith))

  -- where none is left, no row is
  pub none_left : stretch.end ≤ stretch.position → rows_left tables level stretch ≡ []
  none_left order =
      ap (λ rows. rows ++ rows_behind tables level.table level.access stretch.begun)
      (nothing stretch.position stretch.end (ordered tables level.table (key_of level.access)) order)
      ∙ settled.last order

  pub some_left : stretch.position < stretch.end → rows_left tables level stretch ≢ []
  some_left order = λ none. let same = sym (row_first 0 order) ∙ none in (cc)

-- a range access
pub range_left : (tables : List Table) (level : Level) (stretch : Stretch) (key : ℕ) (list : RangeList) → level.access ≡ accesses.Range key list
    → rows_left tables level stretch ≡ between stretch.position stretch.end (entries_of (record { tables = tables; table = level.table; key = key }))
    ++ rows_of_ranges (record { tables = tables; table = level.table; key = key }) (drop stretch.begun list.ranges)
range_left tables level stretch key list is =
    ap (λ access. between stretch.position stretch.end (ordered tables level.table (key_of access)) ++ rows_behind tables level.table access stretch.begun) is

-- the ranges behind some are the next one and those behind it
pub range_first : (index : Indexed) (ranges : List KeyRange) (number : ℕ) (range : KeyRange) → number < length ranges
    → rows_of_ranges index (drop number ranges) ≡ rows_of_range index (get_or ranges number range) ++ rows_of_ranges index (drop (number + 1) ranges)
range_first index ranges number range there = ap (rows_of_ranges index) (drop_more ranges number range there)

-- the values behind some are the next one and those behind it
pub null_first : (tuple : List Value) (i : ℕ) (value : Value) → i < length tuple → slice_get tuple i ≡ Some value
    → list_any is_null (drop i tuple) ≡ (is_null value || list_any is_null (drop (i + 1) tuple))
null_first tuple i value there is =
    ap (list_any is_null) (drop_more tuple i value there)
    ∙ ap (λ first. is_null first || list_any is_null (drop (i + 1) tuple)) (get_or_from_slice_get tuple i value value is)

-- without a key, a row stands at its own number
pub row_by_number : (tables : List Table) (table position : ℕ) (key : Option ℕ) → key ≡ None → position < row_count tables table → slice_get (ordered tables table key) position ≡ Some position
row_by_number tables table position key is there =
    ap (λ (by : Option ℕ). slice_get (ordered tables table by) position) is
    ∙ slice_get-get_or (range_with_len 0 (row_count tables table)) position 0 (let long = length-range_with_len 0 (row_count tables table) in omega arith)
    ∙ ap Some (get_or-range_with_len 0 (row_count tables table) position 0 there ∙ (let same : 0 + position ≡ position = omega arith in same))

-- whether a row is left
pub tells_left : (tables : List Table) (level : Level) (stretch : Stretch) → IsSettled tables level stretch → (left : List ℕ) → left ≡ rows_left tables level stretch
    → (IsTrue (nat_lt stretch.position stretch.end) → left ≢ []) × (left ≢ [] → IsTrue (nat_lt stretch.position stretch.end))
tells_left tables level stretch settled left is =
    elim (nat_lt stretch.position stretch.end) as (λ b. nat_lt stretch.position stretch.end ≡ b → (IsTrue b → left ≢ []) × (left ≢ [] → IsTrue b)) [
      | true ↦ λ order. (
        (λ _ none. some_left tables level stretch settled (grind (arith, nat_tests)) (sym is ∙ none)),
        λ _. refl,
      )
      | false ↦ λ order. ((λ wrong. cc), λ some. absurd (some (is ∙ none_left tables level stretch settled (grind (arith, nat_tests)))))
    ] refl

-- what is read of the ranges behind some, where the next range begins and ends at these positions
pub range_at : (index : Indexed) (ranges : List KeyRange) (number : ℕ) (one other : KeyRange) → number < length ranges
    → (position end : ℕ) → position ≡ count_before index (get_or ranges number one).from → end ≡ count_before index (get_or ranges number other).to
    → between position end (entries_of index) ++ rows_of_ranges index (drop (number + 1) ranges) ≡ rows_of_ranges index (drop number ranges)
range_at index ranges number one other there position end from to =
    let same : end ≡ count_before index (get_or ranges number one).to = to ∙ ap (λ (range : KeyRange). count_before index range.to) (get_or_default ranges number other one there) in
    rw (from, same) (sym (range_first index ranges number one there))

-- behind the last position of a range, the rows of the next ones
pub range_behind : (tables : List Table) (level : Level) (stretch next : Stretch) → IsSettled tables level stretch → (key : ℕ) (list : RangeList) → level.access ≡ accesses.Range key list
    → stretch.position < stretch.end → stretch.end ≤ stretch.position + 1
    → between next.position next.end (entries_of (record { tables = tables; table = level.table; key = key }))
    ++ rows_of_ranges (record { tables = tables; table = level.table; key = key }) (drop next.begun list.ranges)
    ≡ rows_of_ranges (record { tables = tables; table = level.table; key = key }) (drop stretch.begun list.ranges)
    → rows_left tables level next ≡ drop 1 (rows_left tables level stretch)
range_behind tables level stretch next settled key list is order last rows =
    let index : Indexed = record { tables = tables; table = level.table; key = key } in
    range_left tables level next key list is ∙ rows
    ∙ sym (
    ap (drop 1) (row_first tables level stretch settled 0 order)
    ∙ range_left tables level (record stretch { position = stretch.position + 1 }) key list is
    ∙ ap (λ first. first ++ rows_of_ranges index (drop stretch.begun list.ranges)) (nothing (stretch.position + 1) stretch.end (entries_of index) last))
