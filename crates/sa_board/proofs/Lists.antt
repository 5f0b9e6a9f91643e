-- Lists that are read by `get_elem?`, and sums over all seats of a table.
use Rattle.std.proofs.Common.{◌≡◌, ◌≢◌, ℕ, zero, suc, ◌+◌, ◌<◌, ◌≤◌, ◌⊎◌, inl, inr, ⊎_elim, List, [], ◌∷◌, ◌++◌, length, get_or, set, sum_by, cond, Bool, true, false, refl, sym, ap, subst, arith}
use mathlib.Core.Logic.{dite}
use native.Mathlib.Decide.{ℕ_discrete}
use mathlib.Core.Option.{some, some-injective, some-ne-none}
use lib.ListN.{get_elem?}
use Rattle.std.proofs.lemmas.List.Sums.{sum_by-cons}

module _ {A : Type 0} where
  -- What stands in a list with one element set.
  pub at_set : (l : List A) (i j : ℕ) (a b : A) → get_elem? (set l i a) j ≡ some b → ((j ≡ i) × (a ≡ b)) ⊎ ((j ≢ i) × (get_elem? l j ≡ some b))
  at_set [] i j a b e = absurd (some-ne-none b (sym e))
  at_set (x ∷ xs) zero zero a b e = inl (refl, some-injective a b e)
  at_set (x ∷ xs) zero (suc j) a b e = inr ((λ h. omega arith), e)
  at_set (x ∷ xs) (suc i) zero a b e = inr ((λ h. omega arith), e)
  at_set (x ∷ xs) (suc i) (suc j) a b e = ⊎_elim (λ t. inl (ap suc t.0, t.1)) (λ t. let n = t.0 in inr ((λ h. n (omega arith)), t.1)) (at_set xs i j a b e)

  pub set_here : (l : List A) (i : ℕ) (a : A) → i < length l → get_elem? (set l i a) i ≡ some a
  set_here [] i a h = absurd (omega arith)
  set_here (x ∷ xs) zero a h = refl
  set_here (x ∷ xs) (suc i) a h = set_here xs i a (omega arith)

  pub set_else : (l : List A) (i j : ℕ) (a : A) → j ≢ i → get_elem? (set l i a) j ≡ get_elem? l j
  set_else [] i j a n = refl
  set_else (x ∷ xs) zero zero a n = absurd (n refl)
  set_else (x ∷ xs) zero (suc j) a n = refl
  set_else (x ∷ xs) (suc i) zero a n = refl
  set_else (x ∷ xs) (suc i) (suc j) a n = set_else xs i j a (λ e. n (ap suc e))

  pub set_again : (l : List A) (i : ℕ) (a : A) → get_elem? l i ≡ some a → set l i a ≡ l
  set_again [] i a e = refl
  set_again (x ∷ xs) zero a e = λ k. sym (some-injective x a e) k ∷ xs
  set_again (x ∷ xs) (suc i) a e = λ k. x ∷ set_again xs i a e k

  pub at_within : (l : List A) (i : ℕ) (a : A) → get_elem? l i ≡ some a → i < length l
  at_within [] i a e = absurd (some-ne-none a (sym e))
  at_within (x ∷ xs) zero a e = omega arith
  at_within (x ∷ xs) (suc i) a e = let rest = at_within xs i a e in omega arith

  -- What stands in a list with one more element.
  pub at_snoc : (l : List A) (a b : A) (j : ℕ) → get_elem? (l ++ a ∷ []) j ≡ some b → (get_elem? l j ≡ some b) ⊎ ((j ≡ length l) × (a ≡ b))
  at_snoc [] a b zero e = inr (refl, some-injective a b e)
  at_snoc [] a b (suc j) e = absurd (some-ne-none b (sym e))
  at_snoc (x ∷ xs) a b zero e = inl e
  at_snoc (x ∷ xs) a b (suc j) e = ⊎_elim (λ t. inl t) (λ t. inr (ap suc t.0, t.1)) (at_snoc xs a b j e)

  -- The only element of a list, and the element of one that has no other.
  pub alone_is : (x y : A) → x ∷ [] ≡ y ∷ [] → x ≡ y
  alone_is x y e = ap (λ (l : List A). get_or l 0 x) e

module _ {A : Type 0} (f : A → ℕ) where
  -- A sum of which one part is another now.
  pub sum-set : (l : List A) (j : ℕ) (v w : A) → get_elem? l j ≡ some v → sum_by f (set l j w) + f v ≡ sum_by f l + f w
  sum-set [] j v w e = absurd (some-ne-none v (sym e))
  sum-set (x ∷ xs) zero v w e = omega (arith, ap f (some-injective x v e), sum_by-cons f x xs, sum_by-cons f w xs)
  sum-set (x ∷ xs) (suc j) v w e = omega (arith, sum-set xs j v w e, sum_by-cons f x xs, sum_by-cons f x (set xs j w))

  -- A part of a sum, and two parts.
  pub part_le : (l : List A) (j : ℕ) (v : A) → get_elem? l j ≡ some v → f v ≤ sum_by f l
  part_le [] j v e = absurd (some-ne-none v (sym e))
  part_le (x ∷ xs) zero v e = omega (arith, sum_by-cons f x xs, ap f (some-injective x v e))
  part_le (x ∷ xs) (suc j) v e = omega (arith, sum_by-cons f x xs, part_le xs j v e)

  pub parts_le : (l : List A) (j k : ℕ) (v u : A) → k ≢ j → get_elem? l j ≡ some v → get_elem? l k ≡ some u → f v + f u ≤ sum_by f l
  parts_le [] j k v u n e d = absurd (some-ne-none v (sym e))
  parts_le (x ∷ xs) zero zero v u n e d = absurd (n refl)
  parts_le (x ∷ xs) zero (suc k) v u n e d = omega (arith, sum_by-cons f x xs, ap f (some-injective x v e), part_le xs k u d)
  parts_le (x ∷ xs) (suc j) zero v u n e d = omega (arith, sum_by-cons f x xs, ap f (some-injective x u d), part_le xs j v e)
  parts_le (x ∷ xs) (suc j) (suc k) v u n e d = omega (arith, sum_by-cons f x xs, parts_le xs j k v u (λ h. n (ap suc h)) e d)

-- One as a number.
pub bit_le : (b : Bool) → cond b 1 0 ≤ 1
bit_le true = omega arith
bit_le false = omega arith

-- What holds at one index and at all others holds at all.
pub at_or_else : (P : ℕ → Type 0) (i j : ℕ) → P i → (j ≢ i → P j) → P j
at_or_else P i j here others = dite (ℕ_discrete j i) (λ same. subst P (sym same) here) others
