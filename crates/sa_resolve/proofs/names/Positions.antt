-- Places in lists that grow at the end.
use Rattle.std.proofs.Common.{◌≡◌, ℕ, ◌<◌, ◌≤◌, ◌+◌, zero, suc, List, [], ◌∷◌, ◌++◌, length, map, take, Bool, true, false, cond, ltb, eqb, Option, Some, None, ◌⊎◌, inl, inr, refl, ap, ◌∙◌, arith}
use Rattle.std.proofs.lemmas.Bool.Decides.{nat_tests}
use Rattle.std.proofs.lemmas.List.Folds.{position_or_len_push}
use Rattle.std.proofs.lemmas.List.Sums.{prefix_len-le-length}
use Rattle.std.specs.List.{enumerate_from, position, position_or_len, range_with_len, slice_get}
use Rattle.std.specs.Option.{option_or}

push_cases : (at n : ℕ) (b : Bool) → at ≤ n
    → cond (ltb (cond (eqb at n) (n + cond b 0 1) at) (n + 1)) (Some (cond (eqb at n) (n + cond b 0 1) at)) None
    ≡ option_or (cond (ltb at n) (Some at) None) (cond b (Some n) None)
push_cases at n true few = grind (arith, nat_tests)
push_cases at n false few = grind (arith, nat_tests)

length_push : {A : Type 0} (xs : List A) (x : A) → length (xs ++ x ∷ []) ≡ length xs + 1
length_push [] x = omega arith
length_push (y ∷ xs) x = omega (arith, length_push xs x)

-- the first place in a list with one more at the end
pub position-push : {A : Type 0} (test : A → Bool) (xs : List A) (x : A)
    → position test (xs ++ x ∷ []) ≡ option_or (position test xs) (cond (test x) (Some (length xs)) None)
position-push test xs x =
    ap (λ (n : ℕ). cond (ltb (position_or_len test (xs ++ x ∷ [])) n) (Some (position_or_len test (xs ++ x ∷ []))) None) (length_push xs x)
    ∙ ap (λ (at : ℕ). cond (ltb at (length xs + 1)) (Some at) None) (position_or_len_push test xs x)
    ∙ push_cases (position_or_len test xs) (length xs) (test x) (prefix_len-le-length _ xs)

-- numbered lists one after the other
pub enumerate_from-append : {A : Type 0} (n : ℕ) (xs ys : List A) → enumerate_from n (xs ++ ys) ≡ enumerate_from n xs ++ enumerate_from (n + length xs) ys
enumerate_from-append n [] ys = ap (λ (k : ℕ). enumerate_from k ys) (omega arith)
enumerate_from-append n (x ∷ xs) ys =
    ap (λ more. (n, x) ∷ more) (enumerate_from-append (n + 1) xs ys)
    ∙ ap (λ (k : ℕ). (n, x) ∷ (enumerate_from (n + 1) xs ++ enumerate_from k ys)) (omega arith)

-- the numbers of a numbered list
pub map-enumerate_from : {A B : Type 0} (f : ℕ → B) (n : ℕ) (xs : List A) → map (λ numbered. f numbered.0) (enumerate_from n xs) ≡ map f (range_with_len n (length xs))
map-enumerate_from f n [] = refl
map-enumerate_from f n (x ∷ xs) = ap (λ more. f n ∷ more) (map-enumerate_from f (n + 1) xs)

-- one number more
pub range-push : (a n : ℕ) → range_with_len a (n + 1) ≡ range_with_len a n ++ (a + n) ∷ []
range-push a zero = ap (λ (k : ℕ). k ∷ []) (omega arith)
range-push a (suc n) =
    let more : range_with_len (a + 1) (n + 1) ≡ range_with_len (a + 1) n ++ (a + 1 + n) ∷ [] = range-push (a + 1) n in
    let count : suc n + 1 ≡ suc (n + 1) = omega arith in
    ap (range_with_len a) count ∙ ap (λ (rest : List ℕ). a ∷ rest) more
    ∙ ap (λ (k : ℕ). a ∷ (range_with_len (a + 1) n ++ k ∷ [])) (omega arith)

-- what stands in the first part of a list stands in it
pub slice_get-take : {A : Type 0} (count : ℕ) (xs : List A) (i : ℕ) (x : A) → slice_get (take count xs) i ≡ Some x → slice_get xs i ≡ Some x
slice_get-take {A} zero xs i x e = let nothing : ◌≡◌ {A = Option A} None (Some x) = e in cc
slice_get-take (suc count) [] i x e = e
slice_get-take (suc count) (y ∷ xs) zero x e = e
slice_get-take (suc count) (y ∷ xs) (suc i) x e = slice_get-take count xs i x e

-- what stands in a list with one more at the end
pub slice_get-push : {A : Type 0} (xs : List A) (x : A) (i : ℕ) (y : A) → slice_get (xs ++ x ∷ []) i ≡ Some y
    → ((i < length xs) × (slice_get xs i ≡ Some y)) ⊎ ((i ≡ length xs) × (x ≡ y))
slice_get-push {A} [] x zero y e = let some : ◌≡◌ {A = Option A} (Some x) (Some y) = e in inr (refl, cc)
slice_get-push {A} [] x (suc i) y e = let nothing : ◌≡◌ {A = Option A} None (Some y) = e in absurd cc
slice_get-push (z ∷ xs) x zero y e = inl (omega arith, e)
slice_get-push (z ∷ xs) x (suc i) y e = behind (slice_get-push xs x i y e)
  where
    behind : ((i < length xs) × (slice_get xs i ≡ Some y)) ⊎ ((i ≡ length xs) × (x ≡ y)) → ((suc i < length (z ∷ xs)) × (slice_get xs i ≡ Some y)) ⊎ ((suc i ≡ length (z ∷ xs)) × (x ≡ y))
    behind (inl there) = inl (omega (arith, there.0), there.1)
    behind (inr last) = inr (omega (arith, last.0), last.1)
