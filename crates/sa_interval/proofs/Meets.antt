-- What two canonical lists have in common, range after range: what was put, and what is left of both.
use Rattle.std.proofs.Common.{◌≡◌, ℕ, ◌+◌, ◌<◌, ◌≤◌, Bool, true, false, not, ◌&&◌, ◌||◌, List, [], ◌∷◌, length, drop, inl, inr, refl, sym, ◌∙◌, ap, subst, subst₂}
use Rattle.std.proofs.lemmas.Bool.{cases_lt}
use Rattle.std.proofs.lemmas.List.{drop_all}
use Rattle.std.proofs.lemmas.List.Elements.{All-nil, All-head, All-tail, All-weaker}
use Rattle.std.specs.List.{All}
use Rattle.std.specs.Ordering.{is_gt, is_lt}
use Rattle.std.specs.declared.cmp.Ordering.TheVariants.{Less}
use Rattle.sa_key.specs.declared.cut.Cut.{Cut}
use Rattle.sa_key.specs.declared.range.KeyRange.{KeyRange}
use Rattle.sa_key.specs.Range.{IsCanonicalCut, is_cut_in, order_of_cuts}
use Rattle.sa_key.proofs.RangeLemmas.{le_lt, lt_less}
use Rattle.sa_interval.specs.Canonical.{AreCanonical, IsCanonicalRange, IsListOf, lies_in}
use Rattle.sa_interval.specs.inner.Growing.{BeginBy, IsUpto, IsWith, common, earlier, later}
use Rattle.sa_interval.proofs.CutLemmas.{IsTotal, common_in, cut_in, earlier_is, first_upto, later_is, none_before, second_upto, upto_lt, upto_then, within}
use Rattle.sa_interval.proofs.PutLemmas.{canonical_head, canonical_nil, canonical_tail, or_false, pairs_first}
use Rattle.sa_interval.proofs.Merging.{begins_before}

-- No range of the list begins behind both next ones.
abbrev pub BeginByBoth : List KeyRange → List KeyRange → List KeyRange → Type 0
BeginByBoth [] ys list = Unit {0}
BeginByBoth (x ∷ xs) [] list = Unit {0}
BeginByBoth (x ∷ xs) (y ∷ ys) list = (bound : Cut) → IsUpto x.from bound → IsUpto y.from bound → BeginBy bound list

pub record Meeting (holds : Cut → Bool) (list xs ys : List KeyRange) : Type 0 where
  pub canonical : AreCanonical list
  pub one : AreCanonical xs
  pub other : AreCanonical ys
  pub exact : (cut : Cut) → IsCanonicalCut cut → (lies_in list cut || (lies_in xs cut && lies_in ys cut)) ≡ holds cut
  pub begin : BeginByBoth xs ys list

begin_first : (xs ys : List KeyRange) → BeginByBoth xs ys []
begin_first [] ys = tt
begin_first (x ∷ xs) [] = tt
begin_first (x ∷ xs) (y ∷ ys) = λ bound first second. All-nil (λ (range : KeyRange). IsUpto range.from bound)

pub meeting_begins : (a b : List KeyRange) → AreCanonical a → AreCanonical b → Meeting (λ cut. lies_in a cut && lies_in b cut) [] a b
meeting_begins a b one other = record {
  canonical = canonical_nil;
  one = one;
  other = other;
  exact = λ cut form. refl;
  begin = begin_first a b;
}

and_back : (d a b : Bool) → (d || (a && b)) ≡ (d || (b && a))
and_back true a b = refl
and_back false true true = refl
and_back false true false = refl
and_back false false true = refl
and_back false false false = refl

begin_back : (xs ys list : List KeyRange) → BeginByBoth xs ys list → BeginByBoth ys xs list
begin_back [] [] list begin = tt
begin_back [] (y ∷ ys) list begin = tt
begin_back (x ∷ xs) [] list begin = tt
begin_back (x ∷ xs) (y ∷ ys) list begin = λ bound first second. begin bound second first

pub exchanged : (holds : Cut → Bool) (list xs ys : List KeyRange) → Meeting holds list xs ys → Meeting holds list ys xs
exchanged holds list xs ys m = record {
  canonical = m.canonical;
  one = m.other;
  other = m.one;
  exact = λ cut form. and_back (lies_in list cut) (lies_in ys cut) (lies_in xs cut) ∙ m.exact cut form;
  begin = begin_back xs ys list m.begin;
}

-- what has to hold, for what is common to the first ranges to be put
pub may_put : IsTotal → (holds : Cut → Bool) (list : List KeyRange) (x y : KeyRange) (xs ys : List KeyRange) → Meeting holds list (x ∷ xs) (y ∷ ys) → BeginBy (later x.from y.from) list
may_put total holds list x y xs ys m = m.begin (later x.from y.from) (first_upto total x.from y.from) (second_upto total x.from y.from)

-- a cut before each range of a list lies in none
before_all : (c : Cut) (ys : List KeyRange) → AreCanonical ys → All (λ range. is_lt (order_of_cuts c range.from) ≡ true) ys → lies_in ys c ≡ false
before_all c [] is before = refl
before_all c (y ∷ ys) is before =
    let form : IsCanonicalRange y = canonical_head y ys is in
    ap (λ first. first || lies_in ys c) (cut_in y c form.from form.to ∙ none_before y.from y.to c (All-head (λ (range : KeyRange). is_lt (order_of_cuts c range.from) ≡ true) y ys before))
    ∙ before_all c ys (canonical_tail y ys is) (All-tail (λ (range : KeyRange). is_lt (order_of_cuts c range.from) ≡ true) y ys before)

-- a cut in a range lies in none of those behind one that ends no earlier
not_behind : IsTotal → (x y : KeyRange) (ys : List KeyRange) (c : Cut) → AreCanonical (y ∷ ys) → IsUpto x.to y.to → is_lt (order_of_cuts c x.to) ≡ true → lies_in ys c ≡ false
not_behind total x y ys c is upto before =
    let c_x : order_of_cuts c x.to ≡ Less = lt_less (order_of_cuts c x.to) before in
    before_all c ys (canonical_tail y ys is)
    (All-weaker (λ (next : KeyRange). order_of_cuts y.to next.from ≡ Less) (λ (next : KeyRange). is_lt (order_of_cuts c next.from) ≡ true)
    (λ next apart. ap is_lt (total.trans c x.to next.from c_x (le_lt total x.to y.to next.from upto apart)))
    ys (pairs_first (λ earlier next. order_of_cuts earlier.to next.from ≡ Less) y ys is.apart))

-- where a cut in x lies in none of ys
dropped : (d n t x y xs ys : Bool) → x ≡ (n && t) → (t ≡ true → ys ≡ false) → ((d || (x && y)) || (xs && (y || ys))) ≡ (d || ((x || xs) && (y || ys)))
dropped true n t x y xs ys is none = refl
dropped false true true true true true ys is none = refl
dropped false true true true true false ys is none = refl
dropped false true true true false xs true is none = cc (none refl)
dropped false true true true false true false is none = refl
dropped false true true true false false false is none = refl
dropped false true true false y xs ys is none = cc
dropped false true false true y xs ys is none = cc
dropped false true false false y true ys is none = refl
dropped false true false false y false ys is none = refl
dropped false false t true y xs ys is none = cc
dropped false false t false y true ys is none = refl
dropped false false t false y false ys is none = refl

-- What is common to two ranges was put.
pub record PutsBoth (list : List KeyRange) (x y : KeyRange) (new : List KeyRange) : Type 0 where
  pub canonical : AreCanonical new
  pub exact : (cut : Cut) → IsCanonicalCut cut → lies_in new cut ≡ (lies_in list cut || (is_cut_in x cut && is_cut_in y cut))
  pub begin : (bound : Cut) → IsUpto x.from bound → IsUpto y.from bound → BeginBy bound new

pub puts_both : IsTotal → (list new : List KeyRange) (x y : KeyRange) → IsCanonicalRange x → IsCanonicalRange y → IsWith list (common x y) new → PutsBoth list x y new
puts_both total list new x y first second made = record {
  canonical = made.canonical;
  exact = λ cut form.
      made.exact cut form
      ∙ ap (λ both. lies_in list cut || both)
      (cut_in (common x y) cut (later_is IsCanonicalCut x.from y.from first.from second.from) (earlier_is IsCanonicalCut x.to y.to first.to second.to)
      ∙ common_in total x.from x.to y.from y.to cut
      ∙ ap (λ one. one && within y.from y.to cut) (sym (cut_in x cut first.from first.to))
      ∙ ap (λ other. is_cut_in x cut && other) (sym (cut_in y cut second.from second.to)));
  begin = λ bound one other.
      let both : IsUpto (later x.from y.from) bound = later_is (λ cut. IsUpto cut bound) x.from y.from one other in
      All-weaker (λ (range : KeyRange). IsUpto range.from (later x.from y.from)) (λ (range : KeyRange). IsUpto range.from bound)
      (λ range upto. upto_then total range.from (later x.from y.from) bound upto both) new made.begin;
}

both_exchanged : (list new : List KeyRange) (x y : KeyRange) → PutsBoth list x y new → PutsBoth list y x new
both_exchanged list new x y made = record {
  canonical = made.canonical;
  exact = λ cut form. made.exact cut form ∙ and_back (lies_in list cut) (is_cut_in x cut) (is_cut_in y cut);
  begin = λ bound one other. made.begin bound other one;
}

next_begin : IsTotal → (x y : KeyRange) (xs ys list new : List KeyRange) → AreCanonical (x ∷ xs) → PutsBoth list x y new → BeginByBoth xs (y ∷ ys) new
next_begin total x y [] ys list new is made = tt
next_begin total x y (z ∷ xs) ys list new is made = λ bound first second.
    made.begin bound (upto_then total x.from z.from bound (begins_before total x z xs is) first) second

-- what is common to the first ranges is put, and the one that ends no later is left
met : IsTotal → (holds : Cut → Bool) (list new : List KeyRange) (x y : KeyRange) (xs ys : List KeyRange) → Meeting holds list (x ∷ xs) (y ∷ ys) → IsUpto x.to y.to → PutsBoth list x y new → Meeting holds new xs (y ∷ ys)
met total holds list new x y xs ys m upto made =
    let first : IsCanonicalRange x = canonical_head x xs m.one in
    record {
      canonical = made.canonical;
      one = canonical_tail x xs m.one;
      other = m.other;
      exact = λ cut form.
          ap (λ inside. inside || (lies_in xs cut && (is_cut_in y cut || lies_in ys cut))) (made.exact cut form)
          ∙ dropped (lies_in list cut) (not (is_lt (order_of_cuts cut x.from))) (is_lt (order_of_cuts cut x.to)) (is_cut_in x cut) (is_cut_in y cut) (lies_in xs cut) (lies_in ys cut)
          (cut_in x cut first.from first.to) (not_behind total x y ys cut m.other upto)
          ∙ m.exact cut form;
      begin = next_begin total x y xs ys list new m.one made;
    }

-- The same at places of two lists

pub meets_at : (holds : Cut → Bool) (list a b : List KeyRange) (i j : ℕ) (x y : KeyRange) → drop i a ≡ x ∷ drop (i + 1) a → drop j b ≡ y ∷ drop (j + 1) b → Meeting holds list (drop i a) (drop j b) → Meeting holds list (x ∷ drop (i + 1) a) (y ∷ drop (j + 1) b)
meets_at holds list a b i j x y one other m = subst₂ (Meeting holds list) one other m

pub met_one : IsTotal → (holds : Cut → Bool) (list new a b : List KeyRange) (i j : ℕ) (x y : KeyRange) → drop i a ≡ x ∷ drop (i + 1) a → drop j b ≡ y ∷ drop (j + 1) b → Meeting holds list (drop i a) (drop j b) → IsUpto x.to y.to → IsWith list (common x y) new → Meeting holds new (drop (i + 1) a) (drop j b)
met_one total holds list new a b i j x y one other m upto made =
    let at : Meeting holds list (x ∷ drop (i + 1) a) (y ∷ drop (j + 1) b) = meets_at holds list a b i j x y one other m in
    let both : PutsBoth list x y new = puts_both total list new x y (canonical_head x (drop (i + 1) a) at.one) (canonical_head y (drop (j + 1) b) at.other) made in
    subst (λ rest. Meeting holds new (drop (i + 1) a) rest) (sym other)
    (met total holds list new x y (drop (i + 1) a) (drop (j + 1) b) at upto both)

pub met_other : IsTotal → (holds : Cut → Bool) (list new a b : List KeyRange) (i j : ℕ) (x y : KeyRange) → drop i a ≡ x ∷ drop (i + 1) a → drop j b ≡ y ∷ drop (j + 1) b → Meeting holds list (drop i a) (drop j b) → IsUpto y.to x.to → IsWith list (common x y) new → Meeting holds new (drop i a) (drop (j + 1) b)
met_other total holds list new a b i j x y one other m upto made =
    let at : Meeting holds list (x ∷ drop (i + 1) a) (y ∷ drop (j + 1) b) = meets_at holds list a b i j x y one other m in
    let both : PutsBoth list x y new = puts_both total list new x y (canonical_head x (drop (i + 1) a) at.one) (canonical_head y (drop (j + 1) b) at.other) made in
    subst (λ rest. Meeting holds new rest (drop (j + 1) b)) (sym one)
    (exchanged holds new (drop (j + 1) b) (x ∷ drop (i + 1) a)
    (met total holds list new y x (drop (j + 1) b) (drop (i + 1) a) (exchanged holds list (x ∷ drop (i + 1) a) (y ∷ drop (j + 1) b) at) upto (both_exchanged list new x y both)))

none_left : (d a : Bool) → (d || (a && false)) ≡ d
none_left true a = refl
none_left false true = refl
none_left false false = refl

meeting_ends_one : (holds : Cut → Bool) (list ys : List KeyRange) → Meeting holds list [] ys → IsListOf holds list
meeting_ends_one holds list ys m = record {
  canonical = m.canonical;
  exact = λ cut form. sym (or_false (lies_in list cut)) ∙ m.exact cut form;
}

meeting_ends_other : (holds : Cut → Bool) (list xs : List KeyRange) → Meeting holds list xs [] → IsListOf holds list
meeting_ends_other holds list xs m = record {
  canonical = m.canonical;
  exact = λ cut form. sym (none_left (lies_in list cut) (lies_in xs cut)) ∙ m.exact cut form;
}

pub meeting_ends : (holds : Cut → Bool) (list a b : List KeyRange) (i j : ℕ) → (i < length a → length b ≤ j) → Meeting holds list (drop i a) (drop j b) → IsListOf holds list
meeting_ends holds list a b i j past m =
    elim (cases_lt i (length a)) [
      | inl here ↦ meeting_ends_other holds list (drop i a) (subst (λ rest. Meeting holds list (drop i a) rest) (drop_all j b (past here)) m)
      | inr over ↦ meeting_ends_one holds list (drop j b) (subst (λ rest. Meeting holds list rest (drop j b)) (drop_all i a over) m)
    ]
