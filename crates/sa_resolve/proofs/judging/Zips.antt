-- A list beside what each of it is read as.
use Rattle.std.proofs.Common.{◌≡◌, ℕ, suc, zero, ◌<◌, List, [], ◌∷◌, ◌++◌, length, get_or, map, Some, option_map, refl, sym, ap, ◌∙◌, arith}
use Rattle.std.proofs.lemmas.Option.{slice_get-map, slice_get_read}
use Rattle.std.specs.List.{flat_map, slice_get, zip}

pub map-zip : {A B C : Type 0} (f : A × B → C) (h : A → B) (xs : List A)
    → map f (zip xs (map h xs)) ≡ map (λ x. f (x, h x)) xs
map-zip f h [] = refl
map-zip f h (x ∷ xs) = ap (λ rest. f (x, h x) ∷ rest) (map-zip f h xs)

pub flat_map-zip : {A B C : Type 0} (f : B → List C) (h : A → B) (xs : List A)
    → flat_map (λ (pair : A × B). f pair.1) (zip xs (map h xs)) ≡ flat_map f (map h xs)
flat_map-zip f h [] = refl
flat_map-zip f h (x ∷ xs) = ap (λ rest. f (h x) ++ rest) (flat_map-zip f h xs)

-- a pair of both lists
pub zip_at : {A B : Type 0} (xs : List A) (ys : List B) (n : ℕ) (x : A) (y : B) → n < length xs → x ≡ get_or xs n x → slice_get ys n ≡ Some y
    → slice_get (zip xs ys) n ≡ Some (x, y)
zip_at [] ys n x y within is at = absurd (omega arith)
zip_at (z ∷ xs) [] n x y within is at = cc
zip_at (z ∷ xs) (w ∷ ys) zero x y within is at =
    let same : w ≡ y = cc in ap (λ z. Some (z, w)) (sym is) ∙ ap (λ w. Some (x, w)) same
zip_at (z ∷ xs) (w ∷ ys) (suc n) x y within is at = zip_at xs ys n x y (omega arith) is at

-- what one of a list is read as
pub read_at : {A B : Type 0} (h : A → B) (xs : List A) (ys : List B) (n : ℕ) (x : A) (y : B) → ys ≡ map h xs → n < length xs → x ≡ get_or xs n x
    → slice_get ys n ≡ Some y → y ≡ h x
read_at h xs ys n x y are within is at =
    let same : Some y ≡ Some (h x) =
    sym at ∙ ap (λ ys. slice_get ys n) are ∙ slice_get-map h xs n ∙ ap (option_map h) (slice_get_read xs (length xs) n x refl within is) in
    cc
