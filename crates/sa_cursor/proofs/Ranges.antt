-- The entries that lie in ranges that rise: those of one range stand side by side, and before those of
-- the next.
use Rattle.std.proofs.Common.{◌≡◌, ◌≢◌, ℕ, ◌<◌, ◌≤◌, suc, List, [], ◌∷◌, ◌++◌, length, get_or, Bool, true, false, not, ◌&&◌, ◌||◌, filter, ⊎_elim, refl, sym, ap, ◌∙◌, subst, arith}
use Rattle.std.proofs.lemmas.Bool.{cases_eq}
use Rattle.std.proofs.lemmas.List.{length-map}
use Rattle.std.proofs.lemmas.List.Elements.{recursion_from_All}
use Rattle.std.specs.Cmp.{IsTotalOrder}
use Rattle.std.specs.List.{AllByRecursion, list_any}
use Rattle.std.specs.Ordering.{is_lt, nat_cmp, ordering_then, ordering_reverse}
use Rattle.std.specs.declared.cmp.Ordering.{Ordering}
use Rattle.std.specs.declared.cmp.Ordering.TheVariants.{Less, Equal, Greater}
use Rattle.sa_value.specs.declared.value.Value.{Value}
use Rattle.sa_value.specs.declared.value.Value.TheVariants.{Null, Int, Big, Text}
use Rattle.sa_key.specs.declared.cut.Cut.{Cut}
use Rattle.sa_key.specs.declared.cut.Side.{Side}
use Rattle.sa_key.specs.declared.cut.Side.TheVariants.{Below, Above}
use Rattle.sa_key.specs.declared.range.KeyRange.{KeyRange}
use Rattle.sa_key.specs.Order.{order_of_tuples, is_before, IsBefore}
use Rattle.sa_key.specs.Range.{order_of_cuts, canonical_cut, canonical_tuple, kept_before, without_last_nulls, is_tuple_in}
use Rattle.sa_table.specs.Table.{row_at, value_in}
use Rattle.sa_table.specs.AddRow.{is_null}
use Rattle.sa_index.specs.Indexed.{Indexed, key_parts, tuple_of}
use Rattle.sa_index.specs.Entries.{entries_of, rows_of, order_in, count_before}
use Rattle.sa_index.specs.Law.{IsInOrder}
use Rattle.sa_plan.specs.Lawful.{IsShort}
use Rattle.sa_plan.specs.Scan.{have_values}
use Rattle.sa_cursor.specs.inner.Stretch.{between, rows_of_range, rows_of_ranges, equal_entries}
use Rattle.sa_cursor.proofs.Between.{Falls, falls, kept_between, kept_by_either, kept_by_none, kept_alike}
use Rattle.sa_cursor.proofs.Equal.{between_cuts, never_equal}

-- What the crates below say of entries and cuts.
pub record EntryLaws : Type 0 where
  pub total : IsTotalOrder order_of_tuples
  pub down : (a b : List Value) (c : Cut) → order_of_tuples a b ≢ Greater → IsBefore b c → IsBefore a c
  pub in_order : (index : Indexed) → IsInOrder (order_in index) (rows_of index) (entries_of index)

pub record CutLaws : Type 0 where
  pub entries : EntryLaws
  pub up : (tuple : List Value) (c d : Cut) → length c.tuple ≤ length tuple → length d.tuple ≤ length tuple → order_of_cuts c d ≢ Greater → IsBefore tuple c → IsBefore tuple d
  pub alike : (tuple : List Value) (c : Cut) → length c.tuple ≤ length tuple → is_before tuple (canonical_cut c) ≡ is_before tuple c

abbrev tuple_at : Indexed → ℕ → List Value
tuple_at index row = tuple_of index.tables index.table (key_parts index) row

long_tuple : (index : Indexed) (row : ℕ) → length (tuple_at index row) ≡ length (key_parts index)
long_tuple index row = length-map (key_parts index) (value_in (row_at index.tables index.table row))

not_greater : (back second : Ordering) → is_lt (ordering_then back second) ≡ false → ordering_reverse back ≢ Greater
not_greater Less second late = cc
not_greater Equal second late = λ is. cc
not_greater Greater second late = λ is. cc

-- the entries before a cut stand in front
cut_falls : EntryLaws → (index : Indexed) (cut : Cut) → Falls (λ row. is_before (tuple_at index row) cut) (entries_of index)
cut_falls laws index cut =
    falls (λ row. is_before (tuple_at index row) cut) (entries_of index)
    (λ i j d order there before.
    let entries : List ℕ = entries_of index in
    ⊎_elim
    (λ (same : i ≡ j). subst (λ k. is_before (tuple_at index (get_or entries k d)) cut ≡ true) (sym same) before)
    (λ (differ : i ≢ j).
    let row : ℕ = get_or entries i d in
    let later : ℕ = get_or entries j d in
    laws.down (tuple_at index row) (tuple_at index later) cut
    (subst (λ (stands : Ordering). stands ≢ Greater) (sym (laws.total.antisymm (tuple_at index row) (tuple_at index later)))
    (not_greater (order_of_tuples (tuple_at index later) (tuple_at index row)) (nat_cmp later row) ((laws.in_order index).rises i j d (omega arith) there)))
    before)
    (cases_eq i j))

entries_between : EntryLaws → (index : Indexed) (from to : Cut)
    → filter (λ row. not (is_before (tuple_at index row) from) && is_before (tuple_at index row) to) (entries_of index) ≡ between (count_before index from) (count_before index to) (entries_of index)
entries_between laws index from to =
    kept_between (λ row. is_before (tuple_at index row) from) (λ row. is_before (tuple_at index row) to) (entries_of index) (cut_falls laws index from) (cut_falls laws index to)

-- the entries with some values, none of which is NULL
pub equal-between : EntryLaws → (index : Indexed) (wanted : List Value) → length wanted ≤ length (key_parts index) → list_any is_null wanted ≡ false
    → between (count_before index (record { tuple = wanted; side = Below })) (count_before index (record { tuple = wanted; side = Above })) (entries_of index)
    ≡ equal_entries index wanted
equal-between laws index wanted fits there =
    sym (
    kept_alike (λ row. have_values (tuple_at index row) wanted)
    (λ row. not (is_before (tuple_at index row) (record { tuple = wanted; side = Below })) && is_before (tuple_at index row) (record { tuple = wanted; side = Above }))
    (λ row. let long : length (tuple_at index row) ≡ length (key_parts index) = long_tuple index row in between_cuts (tuple_at index row) wanted (omega arith) there)
    (entries_of index)
    ∙ entries_between laws index (record { tuple = wanted; side = Below }) (record { tuple = wanted; side = Above }))

-- the same, where the cuts stand at these positions
pub equal-read : (index : Indexed) (wanted tuple : List Value) → tuple ≡ wanted → (found : Bool) → found ≡ list_any is_null tuple → found ≡ false
    → (position end : ℕ) → position ≡ count_before index (record { tuple = tuple; side = Below }) → end ≡ count_before index (record { tuple = tuple; side = Above })
    → (list_any is_null wanted ≡ false
    → between (count_before index (record { tuple = wanted; side = Below })) (count_before index (record { tuple = wanted; side = Above })) (entries_of index) ≡ equal_entries index wanted)
    → between position end (entries_of index) ≡ equal_entries index wanted
equal-read index wanted tuple is found found_is not_found position end position_is end_is equal =
    rw (position_is, end_is, is) (equal (ap (list_any is_null) (sym is) ∙ sym found_is ∙ not_found))

-- and where one is NULL
pub equal-none : (index : Indexed) (wanted : List Value) → length wanted ≤ length (key_parts index) → list_any is_null wanted ≡ true
    → equal_entries index wanted ≡ []
equal-none index wanted fits there =
    kept_by_none (λ row. have_values (tuple_at index row) wanted)
    (λ row. let long : length (tuple_at index row) ≡ length (key_parts index) = long_tuple index row in never_equal (tuple_at index row) wanted (omega arith) there)
    (entries_of index)

-- each range ends before the later ones begin
abbrev EndsBefore : KeyRange → KeyRange → Type 0
EndsBefore range later = order_of_cuts (canonical_cut range.to) (canonical_cut later.from) ≢ Greater

abbrev pub Apart : ℕ → List KeyRange → Type 0
Apart parts [] = Unit {0}
Apart parts (range ∷ ranges) = IsShort parts range × (AllByRecursion (EndsBefore range) ranges × Apart parts ranges)

pub apart : (parts : ℕ) (ranges : List KeyRange) → ((i : ℕ) (d : KeyRange) → i < length ranges → IsShort parts (get_or ranges i d))
    → ((i j : ℕ) (d : KeyRange) → i < j → j < length ranges → EndsBefore (get_or ranges i d) (get_or ranges j d)) → Apart parts ranges
apart parts [] short rising = tt
apart parts (range ∷ ranges) short rising = (
  short 0 range (omega arith),
  (
    recursion_from_All (EndsBefore range) ranges (λ k d there. rising 0 (suc k) d (omega arith) (omega arith)),
    apart parts ranges (λ i d there. short (suc i) d (omega arith)) (λ i j d order there. rising (suc i) (suc j) d (omega arith) (omega arith)),
  ),
)

kept_before-length : (value : Value) (values : List Value) → length (kept_before value values) ≤ suc (length values)
kept_before-length Null [] = omega arith
kept_before-length Null (x ∷ values) = omega arith
kept_before-length (Int number) values = omega arith
kept_before-length (Big number) values = omega arith
kept_before-length (Text bytes) values = omega arith

without_last_nulls-length : (values : List Value) → length (without_last_nulls values) ≤ length values
without_last_nulls-length [] = omega arith
without_last_nulls-length (value ∷ values) = omega (arith, kept_before-length value (without_last_nulls values), without_last_nulls-length values)

canonical-length : (side : Side) (values : List Value) → length (canonical_tuple side values) ≤ length values
canonical-length Below values = without_last_nulls-length values
canonical-length Above values = omega arith

-- what lies before the end of a range lies before the start of a later one
before_later : CutLaws → (tuple : List Value) (range later : KeyRange) → length range.to.tuple ≤ length tuple → length later.from.tuple ≤ length tuple → EndsBefore range later → is_before tuple range.to ≡ true → is_before tuple later.from ≡ true
before_later laws tuple range later fits other_fits order before =
    let shorter : length (canonical_cut range.to).tuple ≤ length range.to.tuple = canonical-length range.to.side range.to.tuple in
    let other_shorter : length (canonical_cut later.from).tuple ≤ length later.from.tuple = canonical-length later.from.side later.from.tuple in
    sym (laws.alike tuple later.from other_fits)
    ∙ laws.up tuple (canonical_cut range.to) (canonical_cut later.from) (omega arith) (omega arith) order
    (laws.alike tuple range.to fits ∙ before)

both_left : (one other : Bool) → (one && other) ≡ true → one ≡ true
both_left true other both = refl
both_left false other both = cc

both_right : (one other : Bool) → (one && other) ≡ true → other ≡ true
both_right true other both = both
both_right false other both = cc

not_both : (one other : Bool) → (other ≡ true → one ≡ true) → (not one) ≡ true → other ≡ false
not_both true other up fails = cc
not_both false true up fails = let up_to : false ≡ true = up refl in cc
not_both false false up fails = refl

-- what lies in a later range doesn't lie before the end of an earlier one
later_behind : CutLaws → (parts : ℕ) (tuple : List Value) → length tuple ≡ parts → (range : KeyRange) → length range.to.tuple ≤ parts → (ranges : List KeyRange) → AllByRecursion (EndsBefore range) ranges → Apart parts ranges
    → list_any (λ later. is_tuple_in later tuple) ranges ≡ true → is_before tuple range.to ≡ false
later_behind laws parts tuple long range fits [] before all some = cc
later_behind laws parts tuple long range fits (later ∷ ranges) before all some =
    elim (is_tuple_in later tuple) as (λ b. is_tuple_in later tuple ≡ b → (b || list_any (λ other. is_tuple_in other tuple) ranges) ≡ true → is_before tuple range.to ≡ false) [
      | true ↦ λ here _. not_both (is_before tuple later.from) (is_before tuple range.to)
          (before_later laws tuple range later (omega arith) (let short : length later.from.tuple ≤ parts = all.0.0 in omega arith) before.0)
          (both_left (not (is_before tuple later.from)) (is_before tuple later.to) here)
      | false ↦ λ _ others. later_behind laws parts tuple long range fits ranges before.1 all.1.1 others
    ] refl some

-- the entries in one of some ranges are those of each, one range after another
pub entries_in_ranges : CutLaws → (index : Indexed) (ranges : List KeyRange) → Apart (length (key_parts index)) ranges
    → filter (λ row. list_any (λ range. is_tuple_in range (tuple_of index.tables index.table (key_parts index) row)) ranges) (entries_of index) ≡ rows_of_ranges index ranges
entries_in_ranges laws index [] all = kept_by_none (λ row. false) (λ row. refl) (entries_of index)
entries_in_ranges laws index (range ∷ ranges) all =
    kept_by_either (λ row. is_before (tuple_at index row) range.to) (λ row. is_tuple_in range (tuple_at index row)) (λ row. list_any (λ later. is_tuple_in later (tuple_at index row)) ranges)
    (λ row here. both_right (not (is_before (tuple_at index row) range.from)) (is_before (tuple_at index row) range.to) here)
    (λ row some. later_behind laws (length (key_parts index)) (tuple_at index row) (long_tuple index row) range all.0.1 ranges all.1.0 all.1.1 some)
    (entries_of index) (cut_falls laws.entries index range.to)
    ∙ ap (λ rows. rows ++ filter (λ row. list_any (λ later. is_tuple_in later (tuple_at index row)) ranges) (entries_of index)) (entries_between laws.entries index range.from range.to)
    ∙ ap (λ rows. rows_of_range index range ++ rows) (entries_in_ranges laws index ranges all.1.1)
