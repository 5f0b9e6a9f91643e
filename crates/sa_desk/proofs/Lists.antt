-- One element of a list that passes a test.
use Rattle.std.proofs.Common.{◌≡◌, ℕ, suc, ◌<◌, ◌≤◌, Bool, not, List, [], ◌∷◌, length, filter, count_by, Some, None, position, slice_get, get_or, inl, inr, refl, sym, ap, ◌∙◌, arith}
use Rattle.std.proofs.lemmas.Grind.{common_steps}
use Rattle.std.proofs.lemmas.List.Folds.{find_at}
use Rattle.std.proofs.lemmas.Option.{gets, slice_get_read, slice_get_past}
use Rattle.std.proofs.lemmas.Bool.{cases_Bool}
use Rattle.std.specs.List.{find, remove, position_or_len}

-- Where none passes, all are left.
pub filter-none : {X : Type 0} (p : X → Bool) (xs : List X) → count_by p xs ≡ 0 → filter (λ x. not (p x)) xs ≡ xs
filter-none p [] none = refl
filter-none p (x ∷ xs) none =
    elim (cases_Bool (p x)) [
      | inl here ↦ absurd (grind (arith, common_steps))
      | inr here ↦ let rest = filter-none p xs (grind (arith, common_steps)) in grind (arith, common_steps)
    ]

-- as where none is found
pub filter-absent : {X : Type 0} (p : X → Bool) (xs : List X) → length xs ≤ position_or_len p xs → filter (λ x. not (p x)) xs ≡ xs
filter-absent p [] absent = refl
filter-absent p (x ∷ xs) absent =
    elim (cases_Bool (p x)) [
      | inl here ↦ absurd (grind (arith, common_steps))
      | inr here ↦ let rest = filter-absent p xs (grind (arith, common_steps)) in grind (arith, common_steps)
    ]

-- Where one passes at most, the first is the one that is taken out.
pub remove-single : {X : Type 0} (p : X → Bool) (xs : List X) → count_by p xs ≤ 1 → position_or_len p xs < length xs → remove xs (position_or_len p xs) ≡ filter (λ x. not (p x)) xs
remove-single p [] single within = refl
remove-single p (x ∷ xs) single within =
    elim (cases_Bool (p x)) [
      | inl here ↦ let rest = filter-none p xs (grind (arith, common_steps)) in grind (arith, common_steps)
      | inr here ↦
          let rest = remove-single p xs (grind (arith, common_steps)) (grind (arith, common_steps)) in
          let index : position_or_len p (x ∷ xs) ≡ suc (position_or_len p xs) = rw here (omega arith) in
          rw (index, here) (ap (λ more. x ∷ more) rest)
    ]

-- What `position` finds is there, and is what is taken out.
pub position-found : {X : Type 0} (p : X → Bool) (xs : List X) (i : ℕ) → position p xs ≡ Some i → (i ≡ position_or_len p xs) × (i < length xs)
position-found p xs i found = grind (arith, common_steps, gets)

pub position-missing : {X : Type 0} (p : X → Bool) (xs : List X) → position p xs ≡ None → length xs ≤ position_or_len p xs
position-missing p xs missing = grind (arith, common_steps, gets)

pub find-found : {X : Type 0} (p : X → Bool) (xs : List X) (i : ℕ) (x : X) → position p xs ≡ Some i → x ≡ get_or xs i x → Some x ≡ find p xs
find-found p xs i x found here =
    let index = position-found p xs i found in
    sym (find_at p xs ∙ ap (λ i. slice_get xs i) (sym index.0) ∙ slice_get_read xs (length xs) i x refl index.1 here)

pub find-missing : {X : Type 0} (p : X → Bool) (xs : List X) → position p xs ≡ None → None ≡ find p xs
find-missing p xs missing = sym (find_at p xs ∙ slice_get_past xs (position_or_len p xs) (position-missing p xs missing))

pub remove-found : {X : Type 0} (p : X → Bool) (xs : List X) (i : ℕ) → count_by p xs ≤ 1 → position p xs ≡ Some i → remove xs i ≡ filter (λ x. not (p x)) xs
remove-found p xs i single found =
    let index = position-found p xs i found in
    rw index.0 (remove-single p xs single (rw (sym index.0) index.1))
