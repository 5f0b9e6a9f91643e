-- Members of a joined list, and a test on one member more.
use Rattle.std.proofs.Common.{◌≡◌, ℕ, zero, suc, ◌-◌, ◌<◌, ◌≤◌, Bool, true, false, ◌||◌, List, [], ◌∷◌, ◌++◌, length, refl, ap, ◌∙◌, arith}
use Rattle.std.specs.List.{list_any, slice_get}

or-false : (b : Bool) → (b || false) ≡ (false || b)
or-false true = refl
or-false false = refl

or-assoc : (a b c : Bool) → (a || (b || c)) ≡ ((a || b) || c)
or-assoc true b c = refl
or-assoc false b c = refl

pub any-push : {A : Type 0} (test : A → Bool) (xs : List A) (x : A)
    → list_any test (xs ++ x ∷ []) ≡ (list_any test xs || test x)
any-push test [] x = or-false (test x)
any-push test (y ∷ ys) x = ap (λ rest. test y || rest) (any-push test ys x)
    ∙ or-assoc (test y) (list_any test ys) (test x)

pub get_front : {A : Type 0} (xs ys : List A) (i : ℕ) → i < length xs
    → slice_get (xs ++ ys) i ≡ slice_get xs i
get_front [] ys i there = absurd (omega arith)
get_front (x ∷ xs) ys zero there = refl
get_front (x ∷ xs) ys (suc i) there = get_front xs ys i (omega arith)

pub get_back : {A : Type 0} (xs ys : List A) (i : ℕ) → length xs ≤ i
    → slice_get (xs ++ ys) i ≡ slice_get ys (i - length xs)
get_back [] ys i past = ap (slice_get ys) (omega arith)
get_back (x ∷ xs) ys zero past = absurd (omega arith)
get_back (x ∷ xs) ys (suc i) past = get_back xs ys i (omega arith) ∙ ap (slice_get ys) (omega arith)
