-- What follows where a reader agrees with a form.
use Rattle.std.proofs.Common.{◌≡◌, ℕ, suc, List, [], ◌∷◌, ◌++◌, length, Ok, Err, refl, sym, ap, ◌∙◌, subst, append-nil, arith}
use Rattle.sa_lexer.specs.declared.token.Token.{Token}
use Rattle.sa_parser.specs.Form.{Form}
use Rattle.sa_parser.specs.inner.Reading.{Reader}
use Rattle.sa_parser.proofs.Law.{Shape, Law, Ahead}
use Rattle.sa_parser.proofs.Outcomes.{same_value, same_rest}
use Rattle.sa_parser.proofs.Starts.{starts-nothing}

none_left : (behind : List Token) → 0 ≡ length behind → behind ≡ []
none_left [] count = refl
none_left (token ∷ behind) count = absurd (omega (arith, count))

some_left : (behind : List Token) (left : ℕ) → suc left ≡ length behind
    → (token : Token) × (rest : List Token) × (behind ≡ token ∷ rest) × (left ≡ length rest)
some_left [] left count = absurd (omega (arith, count))
some_left (token ∷ rest) left count = (token, rest, refl, omega (arith, count))

module _ {A : Type 0} {Is Wide : Form A} {shape : Shape} {read : Reader A} (law : Law Is Wide shape read) where
  -- the tokens of a form are read to their end
  pub read-whole : (tokens : List Token) (value : A) → Is tokens value → read tokens ≡ Ok (value, [])
  read-whole tokens value is =
      ap read (sym (append-nil tokens)) ∙ law.complete tokens [] value is (starts-nothing shape.goes_on)

  -- Tokens have one value at most.
  pub one_value : (tokens : List Token) (value other : A) → Is tokens value → Is tokens other → value ≡ other
  one_value tokens value other is also =
      same_value value other [] [] (sym (read-whole tokens value is) ∙ read-whole tokens other also)

  -- tokens that are read to their end are in the form
  pub whole-is : (tokens : List Token) (value : A) → read tokens ≡ Ok (value, []) → Is tokens value
  whole-is tokens value e =
      let (before, parts, is) = law.sound tokens value [] e in
      let has_value : List Token → Type 0 = λ some. Is some value in
      subst has_value (sym (parts ∙ append-nil before)) is

  -- tokens that aren't read aren't in the form
  pub faulty-not : (tokens : List Token) (left : ℕ) → read tokens ≡ Err left → (value : A) → Is tokens value → ⊥
  faulty-not tokens left e value is = let never = sym (read-whole tokens value is) ∙ e in cc

  -- where the end of the tokens is the fault, they begin something that is in the wide form
  pub cut_off : (tokens : List Token) → read tokens ≡ Err 0 → (after : List Token) × (value : A) × Wide (tokens ++ after) value
  cut_off tokens e =
      let (before, behind, after, value, parts, count, wide) = law.begun tokens 0 e in
      let all : tokens ≡ before = parts ∙ ap (λ rest. before ++ rest) (none_left behind count) ∙ append-nil before in
      let begins : List Token → Type 0 = λ some. Wide (some ++ after) value in
      (after, value, subst begins (sym all) wide)

module _ {A : Type 0} {Is Wide : Form A} {shape : Shape} {read : Reader A} (law : Law Is Wide shape read) (ahead : Ahead read) where
  -- No tokens are in the form that begin with those that were read and the token at which the reader stopped.
  pub found-alone : (before : List Token) (token : Token) (behind after : List Token) (value other : A)
      → read (before ++ token ∷ behind) ≡ Ok (value, token ∷ behind) → Is (before ++ token ∷ after) other → ⊥
  found-alone before token behind after value other e is =
      let rest = same_rest value other (token ∷ after) []
      (sym (ahead.found before token behind after value e) ∙ read-whole law (before ++ token ∷ after) other is) in
      cc

  -- Nor if it failed there.
  pub faulty-alone : (before : List Token) (token : Token) (behind after : List Token) (other : A)
      → read (before ++ token ∷ behind) ≡ Err (suc (length behind)) → Is (before ++ token ∷ after) other → ⊥
  faulty-alone before token behind after other e is =
      faulty-not law (before ++ token ∷ after) (suc (length after)) (ahead.faulty before token behind after e) other is

  -- where a reader stops before a token
  pub stopped : (tokens : List Token) (value : A) (token : Token) (behind : List Token) → read tokens ≡ Ok (value, token ∷ behind)
      → (before : List Token) × (tokens ≡ before ++ token ∷ behind) × Is before value
      × ((after : List Token) (other : A) → Is (before ++ token ∷ after) other → ⊥)
  stopped tokens value token behind e =
      let (before, parts, is) = law.sound tokens value (token ∷ behind) e in
      (before, parts, is, λ after other. found-alone before token behind after value other (ap read (sym parts) ∙ e))

  -- where a reader fails at a token
  pub failed : (tokens : List Token) (left : ℕ) → read tokens ≡ Err (suc left)
      → (before : List Token) × (token : Token) × (behind : List Token) × (tokens ≡ before ++ token ∷ behind) × (left ≡ length behind)
      × ((after : List Token) × (value : A) × Wide (before ++ after) value) × ((after : List Token) (other : A) → Is (before ++ token ∷ after) other → ⊥)
  failed tokens left e =
      let (before, behind, after, value, parts, count, wide) = law.begun tokens (suc left) e in
      let (token, rest, some, same) = some_left behind left count in
      let whole : tokens ≡ before ++ token ∷ rest = parts ∙ ap (λ tail. before ++ tail) some in (
        before,
        token,
        rest,
        whole,
        same,
        (after, value, wide),
        λ after other. faulty-alone before token rest after other (ap read (sym whole) ∙ e ∙ ap (λ count. Err (suc count)) same),
      )
