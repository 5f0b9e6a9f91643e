-- The elements of a list, by recursion on it.
use Rattle.std.proofs.Common.{◌≡◌, List, [], ◌∷◌, ◌++◌, refl, sym, inl, inr, ◌⊎◌, subst}
use Rattle.std.specs.List.{AllByRecursion, flat_map}

module _ {A : Type 0} where
  -- y is one of them.
  abbrev pub IsIn : A → List A → Type 0
  IsIn y [] = ⊥
  IsIn y (x ∷ xs) = (x ≡ y) ⊎ IsIn y xs

  pub IsIn-left : (y : A) (xs ys : List A) → IsIn y xs → IsIn y (xs ++ ys)
  IsIn-left y [] ys here = absurd here
  IsIn-left y (x ∷ xs) ys (inl is) = inl is
  IsIn-left y (x ∷ xs) ys (inr there) = inr (IsIn-left y xs ys there)

  pub IsIn-right : (y : A) (xs ys : List A) → IsIn y ys → IsIn y (xs ++ ys)
  IsIn-right y [] ys here = here
  IsIn-right y (x ∷ xs) ys here = inr (IsIn-right y xs ys here)

  pub All-in : (P : A → Type 0) (y : A) (xs : List A) → AllByRecursion P xs → IsIn y xs → P y
  All-in P y [] all here = absurd here
  All-in P y (x ∷ xs) all (inl is) = subst P is all.0
  All-in P y (x ∷ xs) all (inr there) = All-in P y xs all.1 there

  beside : (whole ys : List A) → ((y : A) → IsIn y ys → IsIn y whole) → AllByRecursion (λ x. IsIn x whole) ys
  beside whole [] within = tt
  beside whole (y ∷ ys) within = (within y (inl refl), beside whole ys (λ z here. within z (inr here)))

  pub All-itself : (xs : List A) → AllByRecursion (λ x. IsIn x xs) xs
  All-itself xs = beside xs xs (λ y here. here)

  pub All-push : (P : A → Type 0) (xs : List A) (x : A) → AllByRecursion P xs → P x → AllByRecursion P (xs ++ x ∷ [])
  All-push P [] x all last = (last, tt)
  All-push P (y ∷ xs) x all last = (all.0, All-push P xs x all.1 last)

pub IsIn-flat_map : {A B : Type 0} (f : A → List B) (x : A) (y : B) (xs : List A) → IsIn x xs → IsIn y (f x) → IsIn y (flat_map f xs)
IsIn-flat_map f x y [] here found = absurd here
IsIn-flat_map f x y (z ∷ xs) (inl is) found = IsIn-left y (f z) (flat_map f xs) (subst (λ w. IsIn y (f w)) (sym is) found)
IsIn-flat_map f x y (z ∷ xs) (inr there) found = IsIn-right y (f z) (flat_map f xs) (IsIn-flat_map f x y xs there found)
