-- Numbered lists, and what runs of a joined list are.
use Rattle.std.proofs.Common.{◌≡◌, ℕ, zero, suc, ◌+◌, Bool, true, false, cond, List, [], ◌∷◌, ◌++◌, map, length, take, drop, Option, Some, None, option_map, refl, sym, ap, subst, ◌∙◌, arith, add-zero}
use Rattle.std.proofs.lemmas.List.{length-append, map-append, take-append-drop, take_at, drop_at, drop-drop}
use Rattle.std.proofs.lemmas.List.Concat.{flat_map-append}
use Rattle.std.proofs.lemmas.Option.{none-some, same_Some}
use Rattle.std.specs.List.{flat_map, enumerate_from, find, slice_get}

pub map-map : {A B C : Type 0} (g : B → C) (f : A → B) (xs : List A)
    → map g (map f xs) ≡ map (λ x. g (f x)) xs
map-map g f [] = refl
map-map g f (x ∷ xs) = ap (λ rest. g (f x) ∷ rest) (map-map g f xs)

pub map-flat_map : {A B C : Type 0} (g : B → C) (f : A → List B) (xs : List A)
    → map g (flat_map f xs) ≡ flat_map (λ x. map g (f x)) xs
map-flat_map g f [] = refl
map-flat_map g f (x ∷ xs) = map-append g (f x) (flat_map f xs)
    ∙ ap (λ rest. map g (f x) ++ rest) (map-flat_map g f xs)

pub map_numbered : {A B : Type 0} (f g : ℕ × A → B) (start : ℕ) (xs : List A)
    → ((k : ℕ) (x : A) → slice_get xs k ≡ Some x → f (start + k, x) ≡ g (start + k, x))
    → map f (enumerate_from start xs) ≡ map g (enumerate_from start xs)
map_numbered f g start [] same = refl
map_numbered f g start (x ∷ xs) same =
    ap (λ y. y ∷ map f (enumerate_from (start + 1) xs)) (subst (λ n. f (n, x) ≡ g (n, x)) (add-zero start)
    (same 0 x refl))
    ∙ ap (λ rest. g (start, x) ∷ rest) (map_numbered f g (start + 1) xs (λ k y is.
    let n : start + suc k ≡ start + 1 + k = omega arith in subst (λ n. f (n, y) ≡ g (n, y)) n
    (same (suc k) y is)))

pub flat_numbered : {A B : Type 0} (f g : ℕ × A → List B) (start : ℕ) (xs : List A)
    → ((k : ℕ) (x : A) → slice_get xs k ≡ Some x → f (start + k, x) ≡ g (start + k, x))
    → flat_map f (enumerate_from start xs) ≡ flat_map g (enumerate_from start xs)
flat_numbered f g start [] same = refl
flat_numbered f g start (x ∷ xs) same =
    ap (λ y. y ++ flat_map f (enumerate_from (start + 1) xs))
    (subst (λ n. f (n, x) ≡ g (n, x)) (add-zero start) (same 0 x refl))
    ∙ ap (λ rest. g (start, x) ++ rest) (flat_numbered f g (start + 1) xs (λ k y is.
    let n : start + suc k ≡ start + 1 + k = omega arith in subst (λ n. f (n, y) ≡ g (n, y)) n
    (same (suc k) y is)))

pub numbered_take : {A : Type 0} (start : ℕ) (xs : List A) (n : ℕ)
    → take n (enumerate_from start xs) ≡ enumerate_from start (take n xs)
numbered_take start [] zero = refl
numbered_take start [] (suc n) = refl
numbered_take start (x ∷ xs) zero = refl
numbered_take start (x ∷ xs) (suc n) = ap (λ rest. (start, x) ∷ rest) (numbered_take (start + 1) xs n)

-- what stands at an index of a numbered list
pub numbered_at : {A : Type 0} (start : ℕ) (xs : List A) (n : ℕ) (x : A) → slice_get xs n ≡ Some x
    → slice_get (enumerate_from start xs) n ≡ Some (start + n, x)
numbered_at start [] n x is = absurd (none-some x is)
numbered_at start (y ∷ ys) zero x is =
    let n : start ≡ start + 0 = omega arith in
    ap (λ y. Some (start, y)) (same_Some y x is) ∙ ap (λ m. Some (m, x)) n
numbered_at start (y ∷ ys) (suc n) x is =
    let m : start + 1 + n ≡ start + suc n = omega arith in
    numbered_at (start + 1) ys n x is ∙ ap (λ m. Some (m, x)) m

-- what is found in a numbered list
pub record FoundAt {A : Type 0} (start : ℕ) (xs : List A) (number : ℕ) (x : A) : Type 0 where
  pub index : ℕ
  pub number_is : number ≡ start + index
  pub there : slice_get xs index ≡ Some x

found_by : {A : Type 0} (p : ℕ × A → Bool) (start : ℕ) (y : A) (ys : List A) (number : ℕ) (x : A)
    (passes : Bool)
    → cond passes (Some (start, y)) (find p (enumerate_from (start + 1) ys)) ≡ Some (number, x)
    → (find p (enumerate_from (start + 1) ys) ≡ Some (number, x) → FoundAt (start + 1) ys number x)
    → FoundAt start (y ∷ ys) number x
found_by p start y ys number x true is later = record {
  index = 0;
  number_is = let n : start ≡ number = ap (λ pair. pair.0) (same_Some (start, y) (number, x) is) in omega
      arith;
  there = ap (λ pair. Some pair.1) (same_Some (start, y) (number, x) is);
}
found_by p start y ys number x false is later =
    let other = later is in record {
      index = suc other.index;
      number_is = let n = other.number_is in omega arith;
      there = other.there;
    }

pub found_numbered : {A : Type 0} (p : ℕ × A → Bool) (start : ℕ) (xs : List A) (number : ℕ) (x : A)
    → find p (enumerate_from start xs) ≡ Some (number, x) → FoundAt start xs number x
found_numbered p start [] number x is = absurd (none-some (number, x) is)
found_numbered p start (y ∷ ys) number x is =
    found_by p start y ys number x (p (start, y)) is (found_numbered p (start + 1) ys number x)

pub take_get : {A : Type 0} (n : ℕ) (xs : List A) (k : ℕ) (x : A) → slice_get (take n xs) k ≡ Some x
    → slice_get xs k ≡ Some x
take_get zero [] k x is = absurd (none-some x is)
take_get zero (y ∷ ys) k x is = absurd (none-some x is)
take_get (suc n) [] k x is = absurd (none-some x is)
take_get (suc n) (y ∷ ys) zero x is = is
take_get (suc n) (y ∷ ys) (suc k) x is = take_get n ys k x is

-- what a member of a list is joined from
pub run_there : {A B : Type 0} (f : A → List B) (xs : List A) (n : ℕ) (x : A) → slice_get xs n ≡ Some x
    → take (length (f x)) (drop (length (flat_map f (take n xs))) (flat_map f xs)) ≡ f x
run_there f [] n x is = absurd (none-some x is)
run_there f (y ∷ ys) zero x is =
    subst (λ (z : _). take (length (f x)) (f z ++ flat_map f ys) ≡ f x) (sym (same_Some y x is))
    (take_at (f x) (flat_map f ys) (length (f x)) refl)
run_there f (y ∷ ys) (suc n) x is =
    ap (λ m. take (length (f x)) (drop m (f y ++ flat_map f ys)))
    (length-append (f y) (flat_map f (take n ys)))
    ∙ ap (take (length (f x))) (sym (drop-drop (length (flat_map f (take n ys))) (length (f y))
    (f y ++ flat_map f ys)))
    ∙ ap (λ rest. take (length (f x)) (drop (length (flat_map f (take n ys))) rest))
    (drop_at (f y) (flat_map f ys) (length (f y)) refl)
    ∙ run_there f ys n x is

-- what the first members of a list are joined from
pub run_front : {A B : Type 0} (f : A → List B) (xs : List A) (n : ℕ)
    → take (length (flat_map f (take n xs))) (flat_map f xs) ≡ flat_map f (take n xs)
run_front f xs n =
    ap (λ all. take (length (flat_map f (take n xs))) (flat_map f all)) (sym (take-append-drop n xs))
    ∙ ap (take (length (flat_map f (take n xs)))) (flat_map-append f (take n xs) (drop n xs))
    ∙ take_at (flat_map f (take n xs)) (flat_map f (drop n xs)) (length (flat_map f (take n xs))) refl

pub option_map_some : {A B : Type 0} (f : A → B) (o : Option A) (y : B) → option_map f o ≡ Some y
    → (x : A) × (o ≡ Some x) × (f x ≡ y)
option_map_some f None y is = absurd (none-some y is)
option_map_some f (Some x) y is = (x, refl, same_Some (f x) y is)
