-- The different members of a list, and the first place where one stands.
use Rattle.std.proofs.Common.{◌≡◌, ◌⊎◌, inl, inr, ℕ, suc, ◌+◌, ◌<◌, Bool, true, false, not, ◌||◌, List, [], ◌∷◌, length, get_or, if◌then◌else◌, refl, sym, ap, ◌∙◌, subst, arith}
use Rattle.std.specs.List.{AllByRecursion, list_any, filter, position_or_len}
use Rattle.std.proofs.lemmas.Bool.{or_left, or_right, or_cases}
use Rattle.std.proofs.Math.Numerals.{one-add}
use Rattle.sa_query.specs.Groups.{firsts}
use Rattle.sa_resolve.proofs.fit.Lists.{each-both, each-weaker}
use Rattle.sa_resolve.proofs.fit.Names.{filter-has}

pub firsts-has : {A : Type 0} (P : A → Type 0) (alike : A → A → Bool) (xs : List A)
    → AllByRecursion P xs → AllByRecursion P (firsts alike xs)
firsts-has P alike [] all = tt
firsts-has P alike (x ∷ xs) all = (
  all.0,
  filter-has P (λ other. not (alike x other)) (firsts alike xs)
      (firsts-has P alike xs all.1),
)

module _ {A : Type 0} (test : A → Bool) where
  kept_by : (keep : Bool) (x : A) (xs kept : List A) → (test x ≡ true) ⊎ (list_any test xs ≡ true)
      → (test x ≡ true → keep ≡ true)
      → (list_any test xs ≡ true → list_any test kept ≡ true)
      → list_any test (if keep then x ∷ kept else kept) ≡ true
  kept_by true x xs kept (inl this) keeps others = or_left (test x) (list_any test kept) this
  kept_by true x xs kept (inr any) keeps others =
      or_right (test x) (list_any test kept) (others any)
  kept_by false x xs kept (inl this) keeps others = let no : false ≡ true = keeps this in cc
  kept_by false x xs kept (inr any) keeps others = others any

  -- what passes a test stays among those that are kept, if all that pass are kept
  any-filter : (keep : A → Bool) (xs : List A) → list_any test xs ≡ true
      → AllByRecursion (λ x. test x ≡ true → keep x ≡ true) xs
      → list_any test (filter keep xs) ≡ true
  any-filter keep [] any keeps = any
  any-filter keep (x ∷ xs) any keeps =
      kept_by (keep x) x xs (filter keep xs) (or_cases (test x) (list_any test xs) any) keeps.0
      (λ any. any-filter keep xs any keeps.1)

  -- A test passes at the first place where it does.
  pub record PassesAt (xs : List A) (place : ℕ) : Type 0 where
    pub there : place < length xs
    pub passes : (d : A) → test (get_or xs place d) ≡ true

  later : (x : A) (xs : List A) (place : ℕ) → PassesAt xs place → PassesAt (x ∷ xs) (suc place)
  later x xs place at = record { there = omega (arith, at.there); passes = at.passes }

  passes_by : (passes : Bool) (x : A) (xs : List A) → test x ≡ passes
      → (list_any test xs ≡ true → PassesAt xs (position_or_len test xs))
      → passes || list_any test xs ≡ true → PassesAt (x ∷ xs)
      (if not passes then 1 + position_or_len test xs else 0)
  passes_by true x xs is others any = record { there = omega arith; passes = λ d. is }
  passes_by false x xs is others any =
      subst (PassesAt (x ∷ xs)) (sym (one-add (position_or_len test xs)))
      (later x xs (position_or_len test xs) (others any))

  pub passes_at : (xs : List A) → list_any test xs ≡ true → PassesAt xs (position_or_len test xs)
  passes_at [] any = absurd cc
  passes_at (x ∷ xs) any = passes_by (test x) x xs refl (passes_at xs) any

module _ {A : Type 0} (P : A → Type 0) (alike : A → A → Bool) (itself : (x : A) → alike x x ≡ true)
    (equal : (x y : A) → alike x y ≡ true → P x → P y → x ≡ y) where
  apart : (a x y : A) (like : Bool) → alike x y ≡ like → alike a x ≡ false → P a → P x → P y
      → alike a y ≡ true → not (alike x y) ≡ true
  apart a x y false is other of of' of'' same = ap not is
  apart a x y true is other of of' of'' same =
      let one : x ≡ y = equal x y is of' of'' in
      let two : a ≡ y = equal a y same of of'' in
      let bad : alike a x ≡ true = ap (λ a. alike a x) (two ∙ sym one) ∙ itself x in
      cc

  among : (a x : A) (xs : List A) (like : Bool) → alike a x ≡ like → P a → P x → AllByRecursion P xs
      → list_any (alike a) (firsts alike xs) ≡ true
      → list_any (alike a) (firsts alike (x ∷ xs)) ≡ true
  among a x xs true is of of' all any = or_left (alike a x) _ is
  among a x xs false is of of' all any =
      or_right (alike a x) _
      (any-filter (alike a) (λ other. not (alike x other)) (firsts alike xs) any
      (each-weaker P (λ y. alike a y ≡ true → not (alike x y) ≡ true)
      (λ y of''. apart a x y (alike x y) refl is of of' of'') (firsts alike xs)
      (firsts-has P alike xs all)))

  -- Each member of a list is like one of the different members.
  pub each_first : (xs : List A) → AllByRecursion P xs
      → AllByRecursion (λ a. list_any (alike a) (firsts alike xs) ≡ true) xs
  each_first [] all = tt
  each_first (x ∷ xs) all = (
    or_left (alike x x) _ (itself x),
    each-weaker (λ a. P a × (list_any (alike a) (firsts alike xs) ≡ true))
        (λ a. list_any (alike a) (firsts alike (x ∷ xs)) ≡ true)
        (λ a both. among a x xs (alike a x) refl both.0 all.0 all.1 both.1) xs
        (each-both P (λ a. list_any (alike a) (firsts alike xs) ≡ true) xs all.1
        (each_first xs all.1)),
  )
