-- How many rows lie in ranges: those before the end of each but not before its start.
use Rattle.std.proofs.Common.{◌≡◌, ℕ, ◌+◌, ◌-◌, ◌<◌, ◌≤◌, Bool, true, false, not, ◌&&◌, ◌||◌, cond, List, [], ◌∷◌, length, get_or, drop, count_by, All, refl, sym, ap, ◌∙◌, subst, arith, length-drop}
use Rattle.std.specs.Cmp.{IsTotalOrder}
use Rattle.std.specs.declared.cmp.Ordering.TheVariants.{Less}
use Rattle.std.proofs.lemmas.List.{at_drop_all, at_drop_more, get_or-drop, get_or_default, length-map}
use Rattle.std.proofs.lemmas.List.Folds.{list_any_none}
use Rattle.std.proofs.lemmas.List.FromFn.{length-range_with_len}
use Rattle.std.proofs.lemmas.List.Sorted.{length_permutation}
use Rattle.std.proofs.lemmas.List.Sums.{count_by-le-length, sum_by-cons}
use Rattle.sa_value.specs.declared.value.Value.{Value}
use Rattle.sa_value.specs.Compare.{order_of}
use Rattle.sa_key.specs.declared.cut.Cut.{Cut}
use Rattle.sa_key.specs.declared.range.KeyRange.{KeyRange}
use Rattle.sa_key.specs.Order.{is_before}
use Rattle.sa_key.specs.Range.{order_of_cuts}
use Rattle.sa_key.proofs.RangeLemmas.{before_rises}
use Rattle.sa_interval.specs.Canonical.{AreCanonical, IsCanonicalRange}
use Rattle.sa_table.specs.Table.{row_at, row_count, value_in}
use Rattle.sa_index.specs.Entries.{count_before, entries_of, order_in, rows_of}
use Rattle.sa_index.specs.Indexed.{Indexed, key_parts, tuple_of}
use Rattle.sa_index.specs.Law.{IsInOrder}
use Rattle.sa_plan.specs.Lawful.{IsShort}
use Rattle.sa_access.specs.inner.Counted.{in_range, in_ranges}

-- of those that pass the weaker test, some pass the stronger one and the others don't
count_apart : (p q : ℕ → Bool) → ((x : ℕ) → p x ≡ true → q x ≡ true) → (xs : List ℕ) → count_by (λ x. not (p x) && q x) xs + count_by p xs ≡ count_by q xs
count_apart p q weaker [] = refl
count_apart p q weaker (x ∷ xs) =
    let rest : count_by (λ x. not (p x) && q x) xs + count_by p xs ≡ count_by q xs = count_apart p q weaker xs in
    let first : cond (not (p x) && q x) 1 0 + cond (p x) 1 0 ≡ cond (q x) 1 0 = at (p x) (q x) (weaker x) in
    omega (arith, rest, first, sum_by-cons (λ z. cond (not (p z) && q z) 1 0) x xs, sum_by-cons (λ z. cond (p z) 1 0) x xs, sum_by-cons (λ z. cond (q z) 1 0) x xs)
  where
    at : (one other : Bool) → (one ≡ true → other ≡ true) → cond (not one && other) 1 0 + cond one 1 0 ≡ cond other 1 0
    at true true weaker = refl
    at true false weaker = let never : false ≡ true = weaker refl in cc
    at false true weaker = refl
    at false false weaker = refl

-- those that pass one of two tests, which none passes both
count_either : (p q : ℕ → Bool) → ((x : ℕ) → p x ≡ true → q x ≡ false) → (xs : List ℕ) → count_by (λ x. p x || q x) xs ≡ count_by p xs + count_by q xs
count_either p q apart [] = refl
count_either p q apart (x ∷ xs) =
    let rest : count_by (λ x. p x || q x) xs ≡ count_by p xs + count_by q xs = count_either p q apart xs in
    let first : cond (p x || q x) 1 0 ≡ cond (p x) 1 0 + cond (q x) 1 0 = at (p x) (q x) (apart x) in
    omega (arith, rest, first, sum_by-cons (λ z. cond (p z || q z) 1 0) x xs, sum_by-cons (λ z. cond (p z) 1 0) x xs, sum_by-cons (λ z. cond (q z) 1 0) x xs)
  where
    at : (one other : Bool) → (one ≡ true → other ≡ false) → cond (one || other) 1 0 ≡ cond one 1 0 + cond other 1 0
    at true true apart = let never : true ≡ false = apart refl in cc
    at true false apart = refl
    at false true apart = refl
    at false false apart = refl

none_passes : (xs : List ℕ) → count_by (λ x. false) xs ≡ 0
none_passes [] = refl
none_passes (x ∷ xs) = let rest : count_by (λ x. false) xs ≡ 0 = none_passes xs in omega (arith, rest, sum_by-cons (λ (z : ℕ). 0) x xs)

module _ (total : IsTotalOrder order_of) (index : Indexed) where
  abbrev tuple : ℕ → List Value
  tuple row = tuple_of index.tables index.table (key_parts index) row

  long : (row : ℕ) → length (tuple row) ≡ length (key_parts index)
  long row = length-map (key_parts index) (value_in (row_at index.tables index.table row))

  rises : (row : ℕ) (one other : Cut) → length one.tuple ≤ length (key_parts index) → length other.tuple ≤ length (key_parts index)
      → order_of_cuts one other ≡ Less → is_before (tuple row) one ≡ true → is_before (tuple row) other ≡ true
  rises row one other short also less before =
      before_rises total (tuple row) one other (omega (arith, short, long row)) (omega (arith, also, long row)) (λ greater. cc) before

  module _ (range : KeyRange) (canonical : IsCanonicalRange range) (short : IsShort (length (key_parts index)) range) where
    apart : count_by (in_range index range) (entries_of index) + count_before index range.from ≡ count_before index range.to
    apart =
        count_apart (λ row. is_before (tuple row) range.from) (λ row. is_before (tuple row) range.to)
        (λ row. rises row range.from range.to short.0 short.1 canonical.rises) (entries_of index)

    pub start_before_end : count_before index range.from ≤ count_before index range.to
    start_before_end = omega (arith, apart)

    pub rows_between : count_before index range.to - count_before index range.from ≡ count_by (in_range index range) (entries_of index)
    rows_between = omega (arith, apart)

  module _ (ranges : List KeyRange) (canonical : AreCanonical ranges) (short : All (IsShort (length (key_parts index))) ranges) where
    later_apart : (row i j : ℕ) (d : KeyRange) → i < j → j < length ranges → in_range index (get_or ranges i d) row ≡ true → in_range index (get_or ranges j d) row ≡ false
    later_apart row i j d behind there inside =
        let first : KeyRange = get_or ranges i d in
        let later : KeyRange = get_or ranges j d in
        let upto : is_before (tuple row) first.to ≡ true = second_true (not (is_before (tuple row) first.from)) (is_before (tuple row) first.to) inside in
        let past : is_before (tuple row) later.from ≡ true =
        rises row first.to later.from (short i d (omega arith)).1 (short j d there).0 (canonical.apart i j d behind there) upto in
        ap (λ (test : Bool). not test && is_before (tuple row) later.to) past
      where
        second_true : (a b : Bool) → (a && b) ≡ true → b ≡ true
        second_true true b told = told
        second_true false b told = cc

    none_later : (row i : ℕ) (d : KeyRange) → i < length ranges → in_range index (get_or ranges i d) row ≡ true → in_ranges index (drop (i + 1) ranges) row ≡ false
    none_later row i d there inside =
        list_any_none (λ range. in_range index range row) (drop (i + 1) ranges)
        (λ k other few. subst (λ (range : KeyRange). in_range index range row ≡ false) (sym (get_or-drop (i + 1) ranges k other))
        (later_apart row i (i + 1 + k) other (omega arith) (omega (arith, few, length-drop (i + 1) ranges))
        (subst (λ (range : KeyRange). in_range index range row ≡ true) (get_or_default ranges i d other there) inside)))

    -- one range more
    pub rows_more : (i : ℕ) (d : KeyRange) → i < length ranges
        → count_by (in_range index (get_or ranges i d)) (entries_of index) + count_by (in_ranges index (drop (i + 1) ranges)) (entries_of index)
        ≡ count_by (in_ranges index (drop i ranges)) (entries_of index)
    rows_more i d there =
        sym (at_drop_more (λ rest. count_by (in_ranges index rest) (entries_of index)) ranges i d there
        ∙ count_either (in_range index (get_or ranges i d)) (in_ranges index (drop (i + 1) ranges)) (λ row. none_later row i d there) (entries_of index))

    pub rows_all : (i : ℕ) → length ranges ≤ i → count_by (in_ranges index (drop i ranges)) (entries_of index) ≡ 0
    rows_all i all = at_drop_all (λ rest. count_by (in_ranges index rest) (entries_of index)) ranges i all ∙ none_passes (entries_of index)

    pub rows_few : (i : ℕ) → count_by (in_ranges index (drop i ranges)) (entries_of index) ≤ length (entries_of index)
    rows_few i = count_by-le-length (in_ranges index (drop i ranges)) (entries_of index)

-- an index has as many entries as its table has rows
pub entries-long : (index : Indexed) → IsInOrder (order_in index) (rows_of index) (entries_of index) → length (entries_of index) ≡ row_count index.tables index.table
entries-long index ordered =
    length_permutation (rows_of index) (entries_of index) ordered.same ∙ length-range_with_len 0 (row_count index.tables index.table)
