-- The list of ranges is canonical, and a tuple that lies in a range of a sequence lies in exactly one of the list.
use Rattle.std.proofs.Common.{◌≡◌, suc, Bool, true, false, not, ◌&&◌, ◌||◌, cond, List, [], ◌∷◌, length, map, All, refl, sym, ap, ap₂, ◌∙◌, arith}
use Rattle.std.specs.Prelude.{⊤}
use Rattle.std.specs.List.{AllPairs, filter}
use Rattle.std.specs.Cmp.{IsTotalOrder}
use Rattle.std.specs.Ordering.{is_gt, is_lt, is_eq}
use Rattle.std.specs.declared.cmp.Ordering.{Ordering}
use Rattle.std.specs.declared.cmp.Ordering.TheVariants.{Less, Equal, Greater}
use Rattle.std.proofs.lemmas.Cmp.{upto}
use Rattle.std.proofs.lemmas.List.Elements.{All-nil, All-cons}
use Rattle.std.proofs.lemmas.List.Kept.{AllPairs-cons}
use Rattle.sa_key.specs.declared.cut.Cut.{Cut}
use Rattle.sa_key.specs.declared.range.KeyRange.{KeyRange}
use Rattle.sa_key.specs.Range.{canonical_cut, canonical_range, is_cut_in, order_of_cuts}
use Rattle.sa_key.proofs.RangeLemmas.{canonical_cut-again, le_lt, lt_le}
use Rattle.sa_interval.specs.Canonical.{AreCanonical, IsCanonicalRange, lies_in}
use Rattle.sa_interval.specs.inner.Growing.{IsUpto}
use Rattle.sa_range.proofs.Within.{cut_in, lt_up, none_before, within}
use Rattle.sa_range.specs.RangeList.{joined, united}
use Rattle.sa_range.proofs.Rising.{Before, Rising}

-- Canonical ranges, each behind the end of the one before.
abbrev Ahead : Cut → List KeyRange → Type 0
Ahead end [] = ⊤
Ahead end (range ∷ ranges) = (order_of_cuts end range.from ≡ Less) × (IsCanonicalRange range × Ahead range.to ranges)

-- The first of them may begin at a cut.
abbrev Starts : Cut → List KeyRange → Type 0
Starts low [] = ⊤
Starts low (range ∷ ranges) = IsUpto low range.from × (IsCanonicalRange range × Ahead range.to ranges)

canonical_form : (range : KeyRange) → Before range.from range.to → IsCanonicalRange (canonical_range range)
canonical_form range rises = record { from = canonical_cut-again range.from; to = canonical_cut-again range.to; rises = rises }

not_gt : (order : Ordering) → is_gt order ≡ false → is_eq order ≡ false → order ≡ Less
not_gt Less upto apart = refl
not_gt Equal upto apart = cc
not_gt Greater upto apart = cc

module _ (total : IsTotalOrder order_of_cuts) where
  joined_starts : (low : Cut) (range : KeyRange) (ranges : List KeyRange) → IsUpto low range.from → IsCanonicalRange range → Starts range.to ranges → Starts low (joined range ranges)
  joined_starts low range [] upto canonical starts = (upto, (canonical, tt))
  joined_starts low range (next ∷ others) upto canonical starts = at_end (is_eq (order_of_cuts range.to next.from)) refl
    where
      at_end : (touch : Bool) → is_eq (order_of_cuts range.to next.from) ≡ touch → Starts low (cond touch (record { from = range.from; to = next.to } ∷ others) (range ∷ next ∷ others))
      at_end true is = (
        upto,
        (
          record {
            from = canonical.from;
            to = starts.1.0.to;
            rises = lt_le total range.from range.to next.to canonical.rises (ap is_gt (le_lt total range.to next.from next.to starts.0 starts.1.0.rises));
          },
          starts.1.1,
        ),
      )
      at_end false is = (upto, (canonical, (not_gt (order_of_cuts range.to next.from) starts.0 is, (starts.1.0, starts.1.1))))

  pub united_starts : (low : Cut) (ranges : List KeyRange) (high : Cut) → Rising low ranges high → Starts (canonical_cut low) (united (map canonical_range ranges))
  united_starts low [] high rises = tt
  united_starts low (range ∷ ranges) high rises =
      joined_starts (canonical_cut low) (canonical_range range) (united (map canonical_range ranges)) rises.0 (canonical_form range rises.1.0)
      (united_starts range.to ranges high rises.1.1)

  ahead_all : (end : Cut) (ranges : List KeyRange) → Ahead end ranges → All (λ later. order_of_cuts end later.from ≡ Less) ranges
  ahead_all end [] ahead = All-nil (λ (later : KeyRange). order_of_cuts end later.from ≡ Less)
  ahead_all end (range ∷ ranges) ahead =
      All-cons (λ (later : KeyRange). order_of_cuts end later.from ≡ Less) range ranges ahead.0
      (λ k d here. total.trans end range.to _ (total.trans end range.from range.to ahead.0 ahead.1.0.rises) (ahead_all range.to ranges ahead.1.1 k d here))

  ahead_each : (end : Cut) (ranges : List KeyRange) → Ahead end ranges → All IsCanonicalRange ranges
  ahead_each end [] ahead = All-nil IsCanonicalRange
  ahead_each end (range ∷ ranges) ahead = All-cons IsCanonicalRange range ranges ahead.1.0 (ahead_each range.to ranges ahead.1.1)

  ahead_apart : (end : Cut) (ranges : List KeyRange) → Ahead end ranges → AllPairs (λ earlier later. order_of_cuts earlier.to later.from ≡ Less) ranges
  ahead_apart end [] ahead = λ i j d before here. absurd (omega arith)
  ahead_apart end (range ∷ ranges) ahead =
      AllPairs-cons (λ (earlier later : KeyRange). order_of_cuts earlier.to later.from ≡ Less) range ranges (ahead_all range.to ranges ahead.1.1) (ahead_apart range.to ranges ahead.1.1)

  pub starts_canonical : (low : Cut) (ranges : List KeyRange) → Starts low ranges → AreCanonical ranges
  starts_canonical low [] starts = record {
    each = All-nil IsCanonicalRange;
    apart = λ i j d before here. absurd (omega arith);
  }
  starts_canonical low (range ∷ ranges) starts = record {
    each = All-cons IsCanonicalRange range ranges starts.1.0 (ahead_each range.to ranges starts.1.1);
    apart = AllPairs-cons (λ (earlier later : KeyRange). order_of_cuts earlier.to later.from ≡ Less) range ranges (ahead_all range.to ranges starts.1.1) (ahead_apart range.to ranges starts.1.1);
  }

  module _ (cut : Cut) where
    abbrev lies : KeyRange → Bool
    lies range = is_cut_in range cut

    in_range : (range : KeyRange) → IsCanonicalRange range → lies range ≡ within range.from range.to cut
    in_range range canonical = cut_in range cut canonical.from canonical.to

    -- a cut before the end of a range lies in none behind it
    none_ahead : (end : Cut) (ranges : List KeyRange) → Ahead end ranges → is_lt (order_of_cuts cut end) ≡ true → filter lies ranges ≡ []
    none_ahead end [] ahead before = refl
    none_ahead end (range ∷ ranges) ahead before =
        let start : is_lt (order_of_cuts cut range.from) ≡ true = lt_up total cut end range.from (ap is_gt ahead.0) before in
        let stop : is_lt (order_of_cuts cut range.to) ≡ true = lt_up total cut range.from range.to (ap is_gt ahead.1.0.rises) start in
        let out : lies range ≡ false = in_range range ahead.1.0 ∙ none_before range.from range.to cut start in
        ap (λ (test : Bool). cond test (range ∷ filter lies ranges) (filter lies ranges)) out ∙ none_ahead range.to ranges ahead.1.1 stop

    second_true : (a b : Bool) → (a && b) ≡ true → b ≡ true
    second_true true b both = both
    second_true false b both = cc

    or_second : (a b : Bool) → (a || b) ≡ true → a ≡ false → b ≡ true
    or_second true b found is = cc
    or_second false b found is = found

    once_from : (range : KeyRange) (ranges : List KeyRange) → IsCanonicalRange range → Ahead range.to ranges → (lies range || lies_in ranges cut) ≡ true
        → (lies_in ranges cut ≡ true → length (filter lies ranges) ≡ 1) → length (filter lies (range ∷ ranges)) ≡ 1
    once_from range ranges canonical ahead found later = by_first (lies range) refl
      where
        by_first : (here : Bool) → lies range ≡ here → length (cond here (range ∷ filter lies ranges) (filter lies ranges)) ≡ 1
        by_first true is =
            ap (λ (rest : List KeyRange). suc (length rest))
            (none_ahead range.to ranges ahead (second_true (not (is_lt (order_of_cuts cut range.from))) (is_lt (order_of_cuts cut range.to)) (sym (in_range range canonical) ∙ is)))
        by_first false is = later (or_second (lies range) (lies_in ranges cut) found is)

    once_ahead : (ranges : List KeyRange) (end : Cut) → Ahead end ranges → lies_in ranges cut ≡ true → length (filter lies ranges) ≡ 1
    once_ahead [] end ahead found = cc
    once_ahead (range ∷ ranges) end ahead found = once_from range ranges ahead.1.0 ahead.1.1 found (once_ahead ranges range.to ahead.1.1)

    -- a cut that lies in one of these ranges lies in exactly one
    pub once : (low : Cut) (ranges : List KeyRange) → Starts low ranges → lies_in ranges cut ≡ true → length (filter lies ranges) ≡ 1
    once low [] starts found = cc
    once low (range ∷ ranges) starts found = once_from range ranges starts.1.0 starts.1.1 found (once_ahead ranges range.to starts.1.1)

    -- What lies in one of two neighbours lies in the range of both.

    in_both : (a b : Bool) → a ≡ true → b ≡ true → (a && b) ≡ true
    in_both a b first second = ap₂ (λ (x y : Bool). x && y) first second

    first_true : (a b : Bool) → (not a && b) ≡ true → a ≡ false
    first_true true b both = cc
    first_true false b both = refl

    not_lt : (x y : Cut) → IsUpto x y → is_lt (order_of_cuts cut y) ≡ false → is_lt (order_of_cuts cut x) ≡ false
    not_lt x y upto behind = by_test (is_lt (order_of_cuts cut x)) refl
      where
        by_test : (test : Bool) → is_lt (order_of_cuts cut x) ≡ test → is_lt (order_of_cuts cut x) ≡ false
        by_test true is = absurd (false_true (sym behind ∙ lt_up total cut x y upto is))
          where
            false_true : false ≡ true → ⊥
            false_true is = cc
        by_test false is = is

    whole_lies : (range next : KeyRange) → IsCanonicalRange range → IsCanonicalRange next → IsUpto range.to next.from → (lies range || lies next) ≡ true
        → lies (record { from = range.from; to = next.to }) ≡ true
    whole_lies range next one other touch found =
        cut_in (record { from = range.from; to = next.to }) cut one.from other.to ∙ by_first (lies range) refl found
      where
        by_first : (here : Bool) → lies range ≡ here → (here || lies next) ≡ true → within range.from next.to cut ≡ true
        by_first true is found =
            let inside : within range.from range.to cut ≡ true = sym (in_range range one) ∙ is in
            let before : is_lt (order_of_cuts cut next.from) ≡ true = lt_up total cut range.to next.from touch (second_true (not (is_lt (order_of_cuts cut range.from))) (is_lt (order_of_cuts cut range.to)) inside) in
            in_both (not (is_lt (order_of_cuts cut range.from))) (is_lt (order_of_cuts cut next.to))
            (ap not (first_true (is_lt (order_of_cuts cut range.from)) (is_lt (order_of_cuts cut range.to)) inside))
            (lt_up total cut next.from next.to (ap is_gt other.rises) before)
        by_first false is found =
            let inside : within next.from next.to cut ≡ true = sym (in_range next other) ∙ found in
            in_both (not (is_lt (order_of_cuts cut range.from))) (is_lt (order_of_cuts cut next.to))
            (ap not (not_lt range.from range.to (ap is_gt one.rises) (not_lt range.to next.from touch (first_true (is_lt (order_of_cuts cut next.from)) (is_lt (order_of_cuts cut next.to)) inside))))
            (second_true (not (is_lt (order_of_cuts cut next.from))) (is_lt (order_of_cuts cut next.to)) inside)

    or_assoc : (a b c : Bool) → (a || (b || c)) ≡ ((a || b) || c)
    or_assoc true b c = refl
    or_assoc false b c = refl

    or_true : (a b a' : Bool) → (a || b) ≡ true → (a ≡ true → a' ≡ true) → (a' || b) ≡ true
    or_true true b a' found more = ap (λ (first : Bool). first || b) (more refl)
    or_true false b true found more = refl
    or_true false b false found more = found

    joined_lies : (range : KeyRange) (ranges : List KeyRange) → IsCanonicalRange range → Starts range.to ranges → (lies range || lies_in ranges cut) ≡ true → lies_in (joined range ranges) cut ≡ true
    joined_lies range [] canonical starts found = found
    joined_lies range (next ∷ others) canonical starts found = at_end (is_eq (order_of_cuts range.to next.from))
      where
        at_end : (touch : Bool) → lies_in (cond touch (record { from = range.from; to = next.to } ∷ others) (range ∷ next ∷ others)) cut ≡ true
        at_end true =
            or_true (lies range || lies next) (lies_in others cut) (lies (record { from = range.from; to = next.to })) (sym (or_assoc (lies range) (lies next) (lies_in others cut)) ∙ found)
            (whole_lies range next canonical starts.1.0 starts.0)
        at_end false = found

    or_later : (a b b' : Bool) → (a || b) ≡ true → (b ≡ true → b' ≡ true) → (a || b') ≡ true
    or_later true b b' found more = refl
    or_later false b b' found more = more found

    pub united_lies : (low : Cut) (ranges : List KeyRange) (high : Cut) → Rising low ranges high → lies_in (map canonical_range ranges) cut ≡ true → lies_in (united (map canonical_range ranges)) cut ≡ true
    united_lies low [] high rises found = found
    united_lies low (range ∷ ranges) high rises found =
        joined_lies (canonical_range range) (united (map canonical_range ranges)) (canonical_form range rises.1.0) (united_starts range.to ranges high rises.1.1)
        (or_later (lies (canonical_range range)) (lies_in (map canonical_range ranges) cut) (lies_in (united (map canonical_range ranges)) cut) found
        (united_lies range.to ranges high rises.1.1))
