-- Lists of which the first so many elements are done, and the rest is left.
use Rattle.std.proofs.Common.{◌≡◌, ℕ, ◌+◌, ◌<◌, suc, zero, Some, List, [], ◌∷◌, ◌++◌, length, take, drop, slice_get, sym, ap, ◌∙◌, arith}
use Rattle.std.proofs.lemmas.Option.{slice_get_within, get_or_from_slice_get}
use Rattle.std.proofs.lemmas.List.{take_more, take_all, length-drop, drop-drop}

-- The element behind the first so many comes after them.
pub take-next : {A : Type 0} (xs : List A) (done : ℕ) (x : A) → slice_get xs done ≡ Some x → take (done + 1) xs ≡ take done xs ++ x ∷ []
take-next xs done x here =
    take_more xs done x (slice_get_within xs done x here) ∙ ap (λ y. take done xs ++ y ∷ []) (get_or_from_slice_get xs done x x here)

-- Where none is left, the first so many are all.
pub take-none : {A : Type 0} (xs : List A) (done : ℕ) → drop done xs ≡ [] → take done xs ≡ xs
take-none xs done none = take_all done xs (omega (arith, length-drop done xs, ap length none))

-- The first that is left is the element behind those that are done.
pub slice_get-left : {A : Type 0} (xs : List A) (done : ℕ) (x : A) (left : List A) → drop done xs ≡ x ∷ left → slice_get xs done ≡ Some x
slice_get-left [] zero x left is = cc
slice_get-left [] (suc done) x left is = cc
slice_get-left (y ∷ ys) zero x left is = cc
slice_get-left (y ∷ ys) (suc done) x left is = slice_get-left ys done x left is

-- Once it is done too, the others are left.
pub drop-next : {A : Type 0} (xs : List A) (done : ℕ) (x : A) (left : List A) → drop done xs ≡ x ∷ left → drop (done + 1) xs ≡ left
drop-next xs done x left is = sym (drop-drop 1 done xs) ∙ ap (λ ys. drop 1 ys) is

-- So not all are done.
pub length-left : {A : Type 0} (xs : List A) (done : ℕ) (x : A) (left : List A) → drop done xs ≡ x ∷ left → done < length xs
length-left xs done x left is = omega (arith, length-drop done xs, ap length is)
