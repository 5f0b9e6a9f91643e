-- Two canonical lists put together, range after range: what was put, and what is left of both.
use Rattle.std.proofs.Common.{◌≡◌, ℕ, ◌+◌, ◌<◌, ◌≤◌, zero, suc, Bool, true, false, ◌||◌, List, [], ◌∷◌, ◌++◌, length, get_or, drop, inl, inr, refl, sym, ◌∙◌, ap, ap₂, subst, subst₂, arith}
use Rattle.std.proofs.lemmas.Bool.{cases_lt}
use Rattle.std.proofs.lemmas.List.{drop_all, drop_more}
use Rattle.std.proofs.lemmas.List.Elements.{All-nil, All-head, All-weaker}
use Rattle.std.specs.List.{All}
use Rattle.std.specs.Ordering.{is_gt, is_le}
use Rattle.std.specs.declared.cmp.Ordering.TheVariants.{Less}
use Rattle.sa_key.specs.declared.cut.Cut.{Cut}
use Rattle.sa_key.specs.declared.range.KeyRange.{KeyRange}
use Rattle.sa_key.specs.Range.{IsCanonicalCut, is_cut_in, order_of_cuts}
use Rattle.sa_interval.specs.Canonical.{AreCanonical, IsCanonicalRange, IsListOf, lies_in}
use Rattle.sa_interval.specs.inner.Growing.{BeginBy, IsUpto, IsWith, is_first}
use Rattle.sa_interval.proofs.CutLemmas.{IsTotal, le_not_gt, not_le_back, upto_then}
use Rattle.sa_interval.proofs.PutLemmas.{canonical_head, canonical_nil, canonical_tail, or_false, pairs_first}

-- No range of the list begins behind the next one.
abbrev pub BeginByNext : List KeyRange → List KeyRange → Type 0
BeginByNext [] list = Unit {0}
BeginByNext (next ∷ rest) list = BeginBy next.from list

pub record Merging (holds : Cut → Bool) (list xs ys : List KeyRange) : Type 0 where
  pub canonical : AreCanonical list
  pub one : AreCanonical xs
  pub other : AreCanonical ys
  pub exact : (cut : Cut) → IsCanonicalCut cut → (lies_in list cut || (lies_in xs cut || lies_in ys cut)) ≡ holds cut
  pub begin_one : BeginByNext xs list
  pub begin_other : BeginByNext ys list

begin_first : (xs : List KeyRange) → BeginByNext xs []
begin_first [] = tt
begin_first (x ∷ xs) = All-nil (λ (range : KeyRange). IsUpto range.from x.from)

pub merging_begins : (a b : List KeyRange) → AreCanonical a → AreCanonical b → Merging (λ cut. lies_in a cut || lies_in b cut) [] a b
merging_begins a b one other = record {
  canonical = canonical_nil;
  one = one;
  other = other;
  exact = λ cut form. refl;
  begin_one = begin_first a;
  begin_other = begin_first b;
}

or_back : (a b c : Bool) → (a || (b || c)) ≡ (a || (c || b))
or_back true b c = refl
or_back false true true = refl
or_back false true false = refl
or_back false false true = refl
or_back false false false = refl

pub exchanged : (holds : Cut → Bool) (list xs ys : List KeyRange) → Merging holds list xs ys → Merging holds list ys xs
exchanged holds list xs ys m = record {
  canonical = m.canonical;
  one = m.other;
  other = m.one;
  exact = λ cut form. or_back (lies_in list cut) (lies_in ys cut) (lies_in xs cut) ∙ m.exact cut form;
  begin_one = m.begin_other;
  begin_other = m.begin_one;
}

regroup : (d x xs ys : Bool) → ((d || x) || (xs || ys)) ≡ (d || ((x || xs) || ys))
regroup true x xs ys = refl
regroup false true xs ys = refl
regroup false false xs ys = refl

pub begin_later : IsTotal → (x : KeyRange) (list : List KeyRange) (bound : Cut) → IsUpto x.from bound → BeginBy x.from list → BeginBy bound list
begin_later total x list bound upto begin =
    All-weaker (λ (range : KeyRange). IsUpto range.from x.from) (λ (range : KeyRange). IsUpto range.from bound)
    (λ range first. upto_then total range.from x.from bound first upto) list begin

-- a range begins before those behind it
pub begins_before : IsTotal → (x y : KeyRange) (xs : List KeyRange) → AreCanonical (x ∷ y ∷ xs) → IsUpto x.from y.from
begins_before total x y xs is =
    let apart : order_of_cuts x.to y.from ≡ Less = All-head (λ (next : KeyRange). order_of_cuts x.to next.from ≡ Less) y xs (pairs_first (λ earlier next. order_of_cuts earlier.to next.from ≡ Less) x (y ∷ xs) is.apart) in
    ap is_gt (total.trans x.from x.to y.from (canonical_head x (y ∷ xs) is).rises apart)

next_one : IsTotal → (x : KeyRange) (xs list : List KeyRange) → AreCanonical (x ∷ xs) → BeginBy x.from list → BeginByNext xs list
next_one total x [] list is begin = tt
next_one total x (y ∷ xs) list is begin = begin_later total x list y.from (begins_before total x y xs is) begin

next_other : IsTotal → (x : KeyRange) (xs ys list : List KeyRange) → is_first (x ∷ xs) ys ≡ true → BeginBy x.from list → BeginByNext ys list
next_other total x xs [] list first begin = tt
next_other total x xs (y ∷ ys) list first begin = begin_later total x list y.from (le_not_gt (order_of_cuts x.from y.from) first) begin

-- the first range of one list is put, which the other's doesn't begin before
pub merged : IsTotal → (holds : Cut → Bool) (list new : List KeyRange) (x : KeyRange) (xs ys : List KeyRange) → Merging holds list (x ∷ xs) ys → is_first (x ∷ xs) ys ≡ true → IsWith list x new → Merging holds new xs ys
merged total holds list new x xs ys m first made = record {
  canonical = made.canonical;
  one = canonical_tail x xs m.one;
  other = m.other;
  exact = λ cut form.
      ap (λ inside. inside || (lies_in xs cut || lies_in ys cut)) (made.exact cut form)
      ∙ regroup (lies_in list cut) (is_cut_in x cut) (lies_in xs cut) (lies_in ys cut)
      ∙ m.exact cut form;
  begin_one = next_one total x xs new m.one made.begin;
  begin_other = next_other total x xs ys new first made.begin;
}

-- where one list isn't first, the other is
pub other_first : IsTotal → (xs : List KeyRange) (y : KeyRange) (ys : List KeyRange) → is_first xs (y ∷ ys) ≡ false → is_first (y ∷ ys) xs ≡ true
other_first total [] y ys not_first = refl
other_first total (x ∷ xs) y ys not_first =
    ap is_le (total.antisymm y.from x.from) ∙ not_le_back (order_of_cuts x.from y.from) not_first

merging_ends : (holds : Cut → Bool) (list : List KeyRange) → Merging holds list [] [] → IsListOf holds list
merging_ends holds list m = record {
  canonical = m.canonical;
  exact = λ cut form. sym (or_false (lies_in list cut)) ∙ m.exact cut form;
}

-- what has to hold of the first range of the one list, for it to be put
pub may_put : (holds : Cut → Bool) (list : List KeyRange) (x : KeyRange) (xs ys : List KeyRange) → Merging holds list (x ∷ xs) ys → IsCanonicalRange x
may_put holds list x xs ys m = canonical_head x xs m.one

-- The same at places of two lists

pub opened : (xs : List KeyRange) (i : ℕ) (x : KeyRange) → i < length xs → x ≡ get_or xs i x → drop i xs ≡ x ∷ drop (i + 1) xs
opened xs i x here is = drop_more xs i x here ∙ ap (λ first. first ∷ drop (i + 1) xs) (sym is)

pub merges_at : (holds : Cut → Bool) (list a ys : List KeyRange) (i : ℕ) (x : KeyRange) → drop i a ≡ x ∷ drop (i + 1) a → Merging holds list (drop i a) ys → Merging holds list (x ∷ drop (i + 1) a) ys
merges_at holds list a ys i x one m = subst (λ rest. Merging holds list rest ys) one m

pub merged_one : IsTotal → (holds : Cut → Bool) (list new a ys : List KeyRange) (i : ℕ) (x : KeyRange) → drop i a ≡ x ∷ drop (i + 1) a → Merging holds list (drop i a) ys → is_first (drop i a) ys ≡ true → IsWith list x new → Merging holds new (drop (i + 1) a) ys
merged_one total holds list new a ys i x one m first made =
    merged total holds list new x (drop (i + 1) a) ys (merges_at holds list a ys i x one m) (sym (ap (λ rest. is_first rest ys) one) ∙ first) made

pub merged_other : IsTotal → (holds : Cut → Bool) (list new xs b : List KeyRange) (j : ℕ) (y : KeyRange) → drop j b ≡ y ∷ drop (j + 1) b → Merging holds list xs (drop j b) → is_first xs (drop j b) ≡ false → IsWith list y new → Merging holds new xs (drop (j + 1) b)
merged_other total holds list new xs b j y other m not_first made =
    let first : is_first (y ∷ drop (j + 1) b) xs ≡ true = other_first total xs y (drop (j + 1) b) (sym (ap (λ rest. is_first xs rest) other) ∙ not_first) in
    exchanged holds new (drop (j + 1) b) xs
    (merged total holds list new y (drop (j + 1) b) xs (merges_at holds list b xs j y other (exchanged holds list xs (drop j b) m)) first made)

-- what tells that a range begins first

pub first_at : (a b : List KeyRange) (i j : ℕ) (x y : KeyRange) → i < length a → j < length b → is_le (order_of_cuts (get_or a i x).from (get_or b j y).from) ≡ is_first (drop i a) (drop j b)
first_at a b i j x y here there = sym (ap₂ is_first (drop_more a i x here) (drop_more b j y there))

alone : (a : List KeyRange) (i : ℕ) → i < length a → is_first (drop i a) [] ≡ true
alone [] i here = absurd (omega arith)
alone (x ∷ a) zero here = refl
alone (x ∷ a) (suc i) here = alone a i (omega arith)

pub first_alone : (a b : List KeyRange) (i j : ℕ) → i < length a → length b ≤ j → true ≡ is_first (drop i a) (drop j b)
first_alone a b i j here past = sym (ap (λ rest. is_first (drop i a) rest) (drop_all j b past) ∙ alone a i here)

pub none_is_first : (a b : List KeyRange) (i j : ℕ) → length a ≤ i → false ≡ is_first (drop i a) (drop j b)
none_is_first a b i j past = sym (ap (λ rest. is_first rest (drop j b)) (drop_all i a past))

pub merging_ends_at : (holds : Cut → Bool) (list a b : List KeyRange) (i j : ℕ) → length a ≤ i → length b ≤ j → Merging holds list (drop i a) (drop j b) → IsListOf holds list
merging_ends_at holds list a b i j one other m =
    merging_ends holds list (subst₂ (Merging holds list) (drop_all i a one) (drop_all j b other) m)

pub other_left : (i a j b : ℕ) → (i < a → j < b) → (a ≤ i → j < b) → j < b
other_left i a j b before past = elim (cases_lt i a) [ inl here ↦ before here | inr over ↦ past over ]
