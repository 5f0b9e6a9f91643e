-- The first place in a list that passes a test, or the length of the list.
use Rattle.std.proofs.Common.{◌≡◌, ℕ, ◌≤◌, List, length, Bool, cond, ltb, Option, Some, None, ap, ◌∙◌, arith}
use Rattle.std.proofs.lemmas.Bool.Decides.{nat_tests}
use Rattle.std.proofs.lemmas.List.Sums.{prefix_len-le-length}
use Rattle.std.specs.Option.{unwrap_or}
use Rattle.std.specs.List.{position, position_or_len}

or_length : (at n : ℕ) → at ≤ n → unwrap_or (cond (ltb at n) (Some at) None) n ≡ at
or_length at n few = grind (arith, nat_tests)

few_places : {A : Type 0} (test : A → Bool) (xs : List A) → position_or_len test xs ≤ length xs
few_places test xs = prefix_len-le-length _ xs

pub place_or_length : {A : Type 0} (test : A → Bool) (xs : List A) (found : Option ℕ) (place : ℕ) → found
    ≡ position test xs → place ≡ unwrap_or found (length xs)
    → place ≡ position_or_len test xs
place_or_length test xs found place e is =
    is ∙ ap (λ (found : Option ℕ). unwrap_or found (length xs)) e
    ∙ or_length (position_or_len test xs) (length xs) (few_places test xs)
