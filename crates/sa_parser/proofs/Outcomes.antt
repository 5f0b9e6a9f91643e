-- What an outcome tells: which value and rest it has, and where it came from.
use Rattle.std.proofs.Common.{◌≡◌, ℕ, ◌⊎◌, List, Ok, Err, refl, ap, inl, inr}
use Rattle.sa_lexer.specs.declared.token.Token.{Token}
use Rattle.sa_parser.specs.inner.Reading.{Outcome, Reader, and_then, given}

module _ {A : Type 0} where
  found_in : A × List Token → Outcome A → A × List Token
  found_in other (Ok found) = found
  found_in other (Err left) = other

  pub same_value : (value other : A) (rest behind : List Token) → given value rest ≡ given other behind → value ≡ other
  unfolding found_in
  same_value value other rest behind e = ap (λ outcome. (found_in (value, rest) outcome).0) e

  pub same_rest : (value other : A) (rest behind : List Token) → given value rest ≡ given other behind → rest ≡ behind
  unfolding found_in
  same_rest value other rest behind e = ap (λ outcome. (found_in (value, rest) outcome).1) e

  pub same_left : (outcome : Outcome A) (left other : ℕ) → outcome ≡ Err left → outcome ≡ Err other → left ≡ other
  same_left outcome left other e f = cc

-- a reading that goes on after another one
module _ {A B : Type 0} (next : A → Reader B) where
  pub and_then-found : (outcome : Outcome A) (value : B) (rest : List Token) → and_then outcome next ≡ Ok (value, rest)
      → (part : A) × (between : List Token) × (outcome ≡ Ok (part, between)) × (next part between ≡ Ok (value, rest))
  and_then-found (Ok found) value rest e = (found.0, found.1, refl, e)
  and_then-found (Err left) value rest e = cc

  pub and_then-faulty : (outcome : Outcome A) (left : ℕ) → and_then outcome next ≡ Err left
      → (outcome ≡ Err left) ⊎ ((part : A) × (between : List Token) × (outcome ≡ Ok (part, between)) × (next part between ≡ Err left))
  and_then-faulty (Ok found) left e = inr (found.0, found.1, refl, e)
  and_then-faulty (Err there) left e = inl (ap Err (same_left (Err there) there left refl e))
