-- The first element of a list that passes a test, found by going through it.
use Rattle.std.proofs.Common.{◌≡◌, ℕ, zero, suc, ◌<◌, ◌==◌, ◌&&◌, Bool, true, false, List, [], ◌∷◌, filter, slice_get, get_or, take, length, Option, Some, cond, arith}
use Rattle.std.proofs.lemmas.Bool.Decides.{nat_tests}

past : {X : Type 0} (b : Bool) (y : X) (front rest : List X) (found : Option X)
    → cond b (y ∷ front) front ≡ [] → (front ≡ [] → slice_get rest 0 ≡ found) → slice_get (cond b (y ∷ rest) rest) 0 ≡ found
past true y front rest found none later = cc
past false y front rest found none later = later none

pub first_is : {X : Type 0} (test : X → Bool) (xs : List X) (i : ℕ) (d : X)
    → i < length xs → filter test (take i xs) ≡ [] → test (get_or xs i d) ≡ true → slice_get (filter test xs) 0 ≡ Some (get_or xs i d)
first_is test [] i d within none is = absurd (omega arith)
first_is test (y ∷ ys) zero d within none is = rw is
first_is test (y ∷ ys) (suc i) d within none is =
    past (test y) y (filter test (take i ys)) (filter test ys) (Some (get_or ys i d)) none (λ none. first_is test ys i d (omega arith) none is)

pub both_same : (actor seq desk begin : ℕ) → actor ≡ desk → seq ≡ begin → ((actor == desk) && (seq == begin)) ≡ true
both_same actor seq desk begin by_desk at_begin = grind (arith, nat_tests)
