-- What one turn more of a loop over numbered levels, or over conditions, adds.
use Rattle.std.proofs.Common.{◌≡◌, ℕ, ◌+◌, ◌<◌, List, [], ◌∷◌, ◌++◌, map, take, get_or, length, sym, ap, subst, ◌∙◌, zero-add}
use Rattle.std.specs.List.{enumerate_from}
use Rattle.std.proofs.lemmas.List.{take_more, map_push}
use Rattle.std.proofs.lemmas.List.FromFn.{length-enumerate_from, get_or-enumerate_from}

-- the numbered elements before one, and that one
pub take-numbered : {A : Type 0} (xs : List A) (i : ℕ) (x : A) → i < length xs → x ≡ get_or xs i x
    → take (i + 1) (enumerate_from 0 xs) ≡ take i (enumerate_from 0 xs) ++ (i, x) ∷ []
take-numbered xs i x within is =
    let found : get_or (enumerate_from 0 xs) i (i, x) ≡ (i, x) =
    get_or-enumerate_from 0 xs i (i, x) within ∙ ap (λ n. (n, get_or xs i x)) (zero-add i) ∙ ap (λ one. (i, one)) (sym is) in
    take_more (enumerate_from 0 xs) i (i, x) (subst (λ n. i < n) (sym (length-enumerate_from 0 xs)) within)
    ∙ ap (λ one. take i (enumerate_from 0 xs) ++ one ∷ []) found

-- the values of the numbered elements before one, and of that one
pub map-numbered : {A B : Type 0} (f : ℕ × A → B) (xs : List A) (i : ℕ) (x : A) (done : List B) → i < length xs → x ≡ get_or xs i x
    → done ≡ map f (take i (enumerate_from 0 xs)) → done ++ f (i, x) ∷ [] ≡ map f (take (i + 1) (enumerate_from 0 xs))
map-numbered f xs i x done within is so_far =
    ap (λ (front : List _). front ++ f (i, x) ∷ []) so_far
    ∙ sym (map_push f (take i (enumerate_from 0 xs)) (i, x))
    ∙ ap (map f) (sym (take-numbered xs i x within is))
