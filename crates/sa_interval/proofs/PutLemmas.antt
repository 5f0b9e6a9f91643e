-- A canonical list with one more range.
use Rattle.std.proofs.Common.{◌≡◌, suc, zero, Bool, true, false, ◌||◌, List, [], ◌∷◌, ◌++◌, refl, sym, ◌∙◌, ap, arith}
use Rattle.std.proofs.lemmas.List.Elements.{All-nil, All-cons, All-push, All-pop, All-weaker, All-tail, All-head}
use Rattle.std.proofs.lemmas.List.Folds.{list_any-append}
use Rattle.std.proofs.lemmas.List.Kept.{AllPairs-cons}
use Rattle.std.proofs.lemmas.List.Quantifiers.{all_pairs_push}
use Rattle.std.specs.List.{All, AllPairs}
use Rattle.std.specs.Ordering.{is_lt}
use Rattle.std.specs.declared.cmp.Ordering.TheVariants.{Less}
use Rattle.std.specs.declared.option.Option.TheVariants.{Some}
use Rattle.sa_key.specs.declared.cut.Cut.{Cut}
use Rattle.sa_key.specs.declared.range.KeyRange.{KeyRange}
use Rattle.sa_key.specs.Range.{IsCanonicalCut, is_cut_in, order_of_cuts}
use Rattle.sa_key.proofs.RangeLemmas.{lt_le, lt_less}
use Rattle.sa_interval.specs.Canonical.{AreCanonical, IsCanonicalRange, lies_in}
use Rattle.sa_interval.specs.inner.Growing.{BeginBy, IsUpto, IsWith, later, united}
use Rattle.sa_interval.proofs.CutLemmas.{IsTotal, cut_in, first_upto, joined_in, later_is, none_within, upto_self, within}

pub or_false : (b : Bool) → (b || false) ≡ b
or_false true = refl
or_false false = refl

or_assoc : (a b c : Bool) → (a || (b || c)) ≡ ((a || b) || c)
or_assoc true b c = refl
or_assoc false b c = refl

pub pairs_tail : {X : Type 0} (R : X → X → Type 0) (x : X) (xs : List X) → AllPairs R (x ∷ xs) → AllPairs R xs
pairs_tail R x xs pairs i j d before here = pairs (suc i) (suc j) d (omega arith) (omega arith)

pub pairs_first : {X : Type 0} (R : X → X → Type 0) (x : X) (xs : List X) → AllPairs R (x ∷ xs) → All (R x) xs
pairs_first R x xs pairs k d here = pairs zero (suc k) d (omega arith) (omega arith)

pairs_last : {X : Type 0} (R : X → X → Type 0) (front : List X) (y : X) → AllPairs R (front ++ y ∷ []) → All (λ x. R x y) front
pairs_last R [] y pairs = All-nil (λ x. R x y)
pairs_last R (x ∷ front) y pairs =
    All-cons (λ first. R first y) x front
    ((All-pop (R x) (front ++ y ∷ []) front (Some y) refl (pairs_first R x (front ++ y ∷ []) pairs)).1)
    (pairs_last R front y (pairs_tail R x (front ++ y ∷ []) pairs))

pairs_front : {X : Type 0} (R : X → X → Type 0) (front : List X) (y : X) → AllPairs R (front ++ y ∷ []) → AllPairs R front
pairs_front R [] y pairs = λ i j d before here. absurd (omega arith)
pairs_front R (x ∷ front) y pairs =
    AllPairs-cons R x front
    ((All-pop (R x) (front ++ y ∷ []) front (Some y) refl (pairs_first R x (front ++ y ∷ []) pairs)).0)
    (pairs_front R front y (pairs_tail R x (front ++ y ∷ []) pairs))

pub canonical_tail : (x : KeyRange) (xs : List KeyRange) → AreCanonical (x ∷ xs) → AreCanonical xs
canonical_tail x xs is = record {
  each = All-tail IsCanonicalRange x xs is.each;
  apart = pairs_tail (λ earlier next. order_of_cuts earlier.to next.from ≡ Less) x xs is.apart;
}

pub canonical_head : (x : KeyRange) (xs : List KeyRange) → AreCanonical (x ∷ xs) → IsCanonicalRange x
canonical_head x xs is = All-head IsCanonicalRange x xs is.each

canonical_front : (front : List KeyRange) (y : KeyRange) → AreCanonical (front ++ y ∷ []) → AreCanonical front
canonical_front front y is = record {
  each = (All-pop IsCanonicalRange (front ++ y ∷ []) front (Some y) refl is.each).0;
  apart = pairs_front (λ earlier next. order_of_cuts earlier.to next.from ≡ Less) front y is.apart;
}

canonical_last : (front : List KeyRange) (y : KeyRange) → AreCanonical (front ++ y ∷ []) → IsCanonicalRange y
canonical_last front y is = (All-pop IsCanonicalRange (front ++ y ∷ []) front (Some y) refl is.each).1

ends_before : (front : List KeyRange) (y : KeyRange) → AreCanonical (front ++ y ∷ []) → All (λ earlier. order_of_cuts earlier.to y.from ≡ Less) front
ends_before front y is = pairs_last (λ earlier next. order_of_cuts earlier.to next.from ≡ Less) front y is.apart

canonical_push : (xs : List KeyRange) (range : KeyRange) → AreCanonical xs → IsCanonicalRange range → All (λ earlier. order_of_cuts earlier.to range.from ≡ Less) xs → AreCanonical (xs ++ range ∷ [])
canonical_push xs range is new before = record {
  each = All-push IsCanonicalRange xs range is.each new;
  apart = all_pairs_push (λ earlier next. order_of_cuts earlier.to next.from ≡ Less) xs range is.apart before;
}

pub lies_push : (xs : List KeyRange) (range : KeyRange) (cut : Cut) → lies_in (xs ++ range ∷ []) cut ≡ (lies_in xs cut || is_cut_in range cut)
lies_push xs range cut =
    list_any-append (λ (next : KeyRange). is_cut_in next cut) xs (range ∷ [])
    ∙ ap (λ last. lies_in xs cut || last) (or_false (is_cut_in range cut))

-- an empty range changes nothing
pub with_empty : IsTotal → (old : List KeyRange) (range : KeyRange) → AreCanonical old → IsCanonicalCut range.from → IsCanonicalCut range.to → BeginBy range.from old → is_lt (order_of_cuts range.from range.to) ≡ false → IsWith old range old
with_empty total old range is from to begin empty = record {
  canonical = is;
  exact = λ cut form. sym (
      ap (λ last. lies_in old cut || last) (cut_in range cut from to ∙ none_within total range.from range.to cut empty)
      ∙ or_false (lies_in old cut));
  begin = begin;
}

pub canonical_nil : AreCanonical []
canonical_nil = record {
  each = All-nil IsCanonicalRange;
  apart = λ i j d before here. absurd (omega arith);
}

pub with_first : IsTotal → (range : KeyRange) → IsCanonicalRange range → IsWith [] range (range ∷ [])
with_first total range new = record {
  canonical = canonical_push [] range canonical_nil new (All-nil (λ (earlier : KeyRange). order_of_cuts earlier.to range.from ≡ Less));
  exact = λ cut form. or_false (is_cut_in range cut);
  begin = All-cons (λ (first : KeyRange). IsUpto first.from range.from) range [] (upto_self total range.from) (All-nil (λ (first : KeyRange). IsUpto first.from range.from));
}

-- a range behind the last one
pub with_apart : IsTotal → (front : List KeyRange) (last range : KeyRange) → AreCanonical (front ++ last ∷ []) → IsCanonicalRange range → BeginBy range.from (front ++ last ∷ []) → is_lt (order_of_cuts last.to range.from) ≡ true → IsWith (front ++ last ∷ []) range ((front ++ last ∷ []) ++ range ∷ [])
with_apart total front last range is new begin apart =
    let behind : order_of_cuts last.to range.from ≡ Less = lt_less (order_of_cuts last.to range.from) apart in
    let starts : order_of_cuts last.from range.from ≡ Less = total.trans last.from last.to range.from (canonical_last front last is).rises behind in
    record {
      canonical = canonical_push (front ++ last ∷ []) range is new
          (All-push (λ (earlier : KeyRange). order_of_cuts earlier.to range.from ≡ Less) front last
          (All-weaker (λ (earlier : KeyRange). order_of_cuts earlier.to last.from ≡ Less) (λ (earlier : KeyRange). order_of_cuts earlier.to range.from ≡ Less)
          (λ earlier before. total.trans earlier.to last.from range.from before starts) front (ends_before front last is))
          behind);
      exact = λ cut form. lies_push (front ++ last ∷ []) range cut;
      begin = All-push (λ (first : KeyRange). IsUpto first.from range.from) (front ++ last ∷ []) range begin (upto_self total range.from);
    }

-- a range that overlaps or touches the last one
pub with_united : IsTotal → (front : List KeyRange) (last range : KeyRange) → AreCanonical (front ++ last ∷ []) → IsCanonicalRange range → BeginBy range.from (front ++ last ∷ []) → IsUpto range.from last.to → IsWith (front ++ last ∷ []) range (front ++ united last range ∷ [])
with_united total front last range is new begin meets =
    let ends : IsCanonicalRange last = canonical_last front last is in
    let begins = All-pop (λ (first : KeyRange). IsUpto first.from range.from) (front ++ last ∷ []) front (Some last) refl begin in
    let whole : IsCanonicalRange (united last range) = record {
      from = ends.from;
      to = later_is IsCanonicalCut last.to range.to ends.to new.to;
      rises = lt_le total last.from last.to (later last.to range.to) ends.rises (first_upto total last.to range.to);
    } in
    record {
      canonical = canonical_push front (united last range) (canonical_front front last is) whole (ends_before front last is);
      exact = λ cut form.
          lies_push front (united last range) cut
          ∙ ap (λ inside. lies_in front cut || inside)
          (cut_in (united last range) cut whole.from whole.to
          ∙ joined_in total last.from last.to range.from range.to cut begins.1 meets
          ∙ ap (λ first. first || within range.from range.to cut) (sym (cut_in last cut ends.from ends.to))
          ∙ ap (λ second. is_cut_in last cut || second) (sym (cut_in range cut new.from new.to)))
          ∙ or_assoc (lies_in front cut) (is_cut_in last cut) (is_cut_in range cut)
          ∙ ap (λ before. before || is_cut_in range cut) (sym (lies_push front last cut));
      begin = All-push (λ (first : KeyRange). IsUpto first.from range.from) front (united last range) begins.0 begins.1;
    }
