-- A loop over a list with numbers.
use Rattle.std.proofs.Common.{◌≡◌, ℕ, ◌+◌, ◌<◌, ◌≤◌, List, [], ◌∷◌, ◌++◌, length, get_or, take, append-nil, sym, ap, subst, ◌∙◌, arith}
use Rattle.std.proofs.lemmas.List.{take_all, take_more}
use Rattle.std.proofs.lemmas.List.Concat.{flat_map-append}
use Rattle.std.proofs.lemmas.List.FromFn.{length-enumerate_from, get_or-enumerate_from}
use Rattle.std.specs.List.{enumerate_from, flat_map}

number_at : {A : Type 0} (xs : List A) (i : ℕ) (x : A) → i < length xs → x ≡ get_or xs i x → get_or (enumerate_from 0 xs) i (i, x) ≡ (i, x)
number_at xs i x within is =
    let number : 0 + i ≡ i = omega arith in
    get_or-enumerate_from 0 xs i (i, x) within
    ∙ ap (λ (n : ℕ). (n, get_or xs i x)) number ∙ ap (λ x. (i, x)) (sym is)

-- one turn more
pub numbered_more : {A B : Type 0} (f : ℕ × A → List B) (xs : List A) (i : ℕ) (x : A) → i < length xs → x ≡ get_or xs i x
    → flat_map f (take (i + 1) (enumerate_from 0 xs)) ≡ flat_map f (take i (enumerate_from 0 xs)) ++ f (i, x)
numbered_more f xs i x within is =
    ap (flat_map f) (take_more (enumerate_from 0 xs) i (i, x) (subst (λ (n : ℕ). i < n) (sym (length-enumerate_from 0 xs)) within)
    ∙ ap (λ last. take i (enumerate_from 0 xs) ++ last ∷ []) (number_at xs i x within is))
    ∙ flat_map-append f (take i (enumerate_from 0 xs)) ((i, x) ∷ [])
    ∙ ap (λ last. flat_map f (take i (enumerate_from 0 xs)) ++ last) (append-nil (f (i, x)))

-- all of them
pub numbered_all : {A B : Type 0} (f : ℕ × A → List B) (xs : List A) (i : ℕ) → length xs ≤ i
    → flat_map f (take i (enumerate_from 0 xs)) ≡ flat_map f (enumerate_from 0 xs)
numbered_all f xs i all = ap (flat_map f) (take_all i (enumerate_from 0 xs) (subst (λ (n : ℕ). n ≤ i) (sym (length-enumerate_from 0 xs)) all))
