-- What holds of each member of lists that are joined, and lists that are empty.
use Rattle.std.proofs.Common.{◌≡◌, Bool, true, false, ◌&&◌, List, [], ◌∷◌, ◌++◌, map, flat_map, refl, ap, ◌∙◌}
use Rattle.std.specs.List.{AllByRecursion, list_all}
use Rattle.sa_query.specs.declared.refusal.ResolveKind.{ResolveKind}
use Rattle.sa_resolve.specs.Fault.{told}
use Rattle.std.proofs.Common.{ℕ}

module _ {A : Type 0} (P : A → Type 0) where
  pub each-left : (xs ys : List A) → AllByRecursion P (xs ++ ys) → AllByRecursion P xs
  each-left [] ys all = tt
  each-left (x ∷ xs) ys all = (all.0, each-left xs ys all.1)

  pub each-right : (xs ys : List A) → AllByRecursion P (xs ++ ys) → AllByRecursion P ys
  each-right [] ys all = all
  each-right (x ∷ xs) ys all = each-right xs ys all.1

  pub each-append : (xs ys : List A) → AllByRecursion P xs → AllByRecursion P ys
      → AllByRecursion P (xs ++ ys)
  each-append [] ys left right = right
  each-append (x ∷ xs) ys left right = (left.0, each-append xs ys left.1 right)

  pub each-weaker : (Q : A → Type 0) → ((x : A) → P x → Q x) → (xs : List A) → AllByRecursion P xs
      → AllByRecursion Q xs
  each-weaker Q weaker [] all = tt
  each-weaker Q weaker (x ∷ xs) all = (weaker x all.0, each-weaker Q weaker xs all.1)

  pub each-always : ((x : A) → P x) → (xs : List A) → AllByRecursion P xs
  each-always always [] = tt
  each-always always (x ∷ xs) = (always x, each-always always xs)

  module _ {B : Type 0} (f : B → List A) where
    pub each-in : (xs : List B) → AllByRecursion P (flat_map f xs)
        → AllByRecursion (λ x. AllByRecursion P (f x)) xs
    each-in [] all = tt
    each-in (x ∷ xs) all =
        (each-left (f x) (flat_map f xs) all, each-in xs (each-right (f x) (flat_map f xs) all))

    pub each-of : (xs : List B) → AllByRecursion (λ x. AllByRecursion P (f x)) xs
        → AllByRecursion P (flat_map f xs)
    each-of [] all = tt
    each-of (x ∷ xs) all = each-append (f x) (flat_map f xs) all.0 (each-of xs all.1)

  module _ {B : Type 0} (f : B → A) where
    pub each-map : (xs : List B) → AllByRecursion (λ x. P (f x)) xs → AllByRecursion P (map f xs)
    each-map [] all = tt
    each-map (x ∷ xs) all = (all.0, each-map xs all.1)

    pub each-mapped : (xs : List B) → AllByRecursion P (map f xs) → AllByRecursion (λ x. P (f x)) xs
    each-mapped [] all = tt
    each-mapped (x ∷ xs) all = (all.0, each-mapped xs all.1)

-- two facts of each member
pub each-both : {A : Type 0} (P Q : A → Type 0) (xs : List A) → AllByRecursion P xs
    → AllByRecursion Q xs → AllByRecursion (λ x. P x × Q x) xs
each-both P Q [] one other = tt
each-both P Q (x ∷ xs) one other = ((one.0, other.0), each-both P Q xs one.1 other.1)

pub none-left : {A : Type 0} (xs ys : List A) → xs ++ ys ≡ [] → xs ≡ []
none-left [] ys is = refl
none-left (x ∷ xs) ys is = cc

pub none-right : {A : Type 0} (xs ys : List A) → xs ++ ys ≡ [] → ys ≡ []
none-right [] ys is = is
none-right (x ∷ xs) ys is = cc

pub none-in : {A B : Type 0} (f : B → List A) (xs : List B) → flat_map f xs ≡ []
    → AllByRecursion (λ x. f x ≡ []) xs
none-in f [] is = tt
none-in f (x ∷ xs) is =
    (none-left (f x) (flat_map f xs) is, none-in f xs (none-right (f x) (flat_map f xs) is))

pub none-of : {A B : Type 0} (f : B → List A) (xs : List B) → AllByRecursion (λ x. f x ≡ []) xs
    → flat_map f xs ≡ []
none-of f [] all = refl
none-of f (x ∷ xs) all = ap (λ list. list ++ flat_map f xs) all.0 ∙ none-of f xs all.1

pub none-map : {A B : Type 0} (f : B → A) (xs : List B) → map f xs ≡ [] → xs ≡ []
none-map f [] is = refl
none-map f (x ∷ xs) is = cc

-- a fault that isn't told doesn't stand
pub untold : (stands : Bool) (kind : ResolveKind) (place : ℕ) → told stands kind place ≡ [] → stands
    ≡ false
untold true kind place is = cc
untold false kind place is = refl

pub both-left : (x y : Bool) → x && y ≡ true → x ≡ true
both-left true y is = refl
both-left false y is = cc

pub both-right : (x y : Bool) → x && y ≡ true → y ≡ true
both-right true y is = is
both-right false y is = cc

pub both-true : {x y : Bool} → x ≡ true → y ≡ true → x && y ≡ true
both-true {x} {y} one other = ap (λ x. x && y) one ∙ other

pub each-true : {A : Type 0} (test : A → Bool) (xs : List A)
    → list_all (λ (passed : Bool). passed) (map test xs) ≡ true
    → AllByRecursion (λ x. test x ≡ true) xs
each-true test [] is = tt
each-true test (x ∷ xs) is =
    (both-left (test x) _ is, each-true test xs (both-right (test x) _ is))
