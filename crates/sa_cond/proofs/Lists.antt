-- What holds of all members of two lists that are joined holds of those of each.
use Rattle.std.proofs.Common.{◌≡◌, ◌+◌, Bool, true, ◌&&◌, List, ◌∷◌, [], ◌++◌, length, map, flat_map, All, refl, subst, arith, length-append}
use Rattle.std.specs.List.{list_all}
use Rattle.std.proofs.lemmas.List.Elements.{All-nil, All-cons}
use Rattle.std.proofs.Common.{false}
use Rattle.std.proofs.lemmas.List.{get_or_append_left, get_or-append-add}

module _ {A : Type 0} (P : A → Type 0) where
  pub All-left : (xs ys : List A) → All P (xs ++ ys) → All P xs
  All-left xs ys all = λ k d lt. subst P (get_or_append_left xs ys d k lt) (all k d (omega (arith, length-append xs ys)))

  pub All-right : (xs ys : List A) → All P (xs ++ ys) → All P ys
  All-right xs ys all = λ k d lt. subst P (get_or-append-add xs ys k d) (all (length xs + k) d (omega (arith, length-append xs ys)))

  pub All-one : (x : A) → All P (x ∷ []) → P x
  All-one x all = all 0 x (omega arith)

  module _ {B : Type 0} (f : B → List A) where
    pub All-flat_map : (xs : List B) → All P (flat_map f xs) → All (λ x. All P (f x)) xs
    All-flat_map [] all = All-nil (λ (x : B). All P (f x))
    All-flat_map (x ∷ xs) all =
        All-cons (λ (x : B). All P (f x)) x xs (All-left (f x) (flat_map f xs) all) (All-flat_map xs (All-right (f x) (flat_map f xs) all))

    pub All-flat : (xs : List B) → All P (flat_map (λ names. names) (map f xs)) → All (λ x. All P (f x)) xs
    All-flat [] all = All-nil (λ (x : B). All P (f x))
    All-flat (x ∷ xs) all =
        All-cons (λ (x : B). All P (f x)) x xs (All-left (f x) (flat_map (λ names. names) (map f xs)) all) (All-flat xs (All-right (f x) (flat_map (λ names. names) (map f xs)) all))

pub both_true : (a b : Bool) → a && b ≡ true → (a ≡ true) × (b ≡ true)
both_true true b e = (refl, e)
both_true false b e = cc

module _ {A : Type 0} (test : A → Bool) where
  pub All-list_all : (xs : List A) → list_all test xs ≡ true → All (λ x. test x ≡ true) xs
  All-list_all [] e = All-nil (λ (x : A). test x ≡ true)
  All-list_all (x ∷ xs) e =
      let both = both_true (test x) (list_all test xs) e in
      All-cons (λ (x : A). test x ≡ true) x xs both.0 (All-list_all xs both.1)

  pub All-list_all_map : (xs : List A) → list_all (λ passed. passed) (map test xs) ≡ true → All (λ x. test x ≡ true) xs
  All-list_all_map [] e = All-nil (λ (x : A). test x ≡ true)
  All-list_all_map (x ∷ xs) e =
      let both = both_true (test x) (list_all (λ passed. passed) (map test xs)) e in
      All-cons (λ (x : A). test x ≡ true) x xs both.0 (All-list_all_map xs both.1)
