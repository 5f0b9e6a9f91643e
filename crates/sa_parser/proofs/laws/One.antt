-- One token, of which something is told.
use Rattle.std.proofs.Common.{◌≡◌, ℕ, suc, true, false, List, [], ◌∷◌, ◌++◌, length, Option, Some, None, Ok, Err, refl, ap, ◌∙◌, arith, length-append}
use Rattle.std.proofs.lemmas.List.{append_cancel_right}
use Rattle.sa_lexer.specs.declared.token.Token.{Token}
use Rattle.sa_parser.specs.Form.{One}
use Rattle.sa_parser.specs.inner.Reading.{one, told_or_refused}
use Rattle.sa_parser.proofs.Heads.{Heads, none, has, starts}
use Rattle.sa_parser.proofs.Law.{Shape, Law, Ahead}
use Rattle.sa_parser.proofs.Outcomes.{same_value, same_rest, same_left}

abbrev pub one_shape : Heads → Shape
one_shape heads = record { opens = heads; blank = false; goes_on = none }

module _ {A : Type 0} (told : Token → Option A) where
  told-found : (found : Option A) (token : Token) (after : List Token) (value : A) (rest : List Token)
      → told token ≡ found → told_or_refused found token after ≡ Ok (value, rest) → (told token ≡ Some value) × (after ≡ rest)
  told-found None token after value rest t e = cc
  told-found (Some part) token after value rest t e = (t ∙ ap Some (same_value part value after rest e), same_rest part value after rest e)

  one-sound : (tokens : List Token) (value : A) (rest : List Token) → one told tokens ≡ Ok (value, rest)
      → (before : List Token) × (tokens ≡ before ++ rest) × One told before value
  unfolding one One
  one-sound [] value rest e = cc
  one-sound (token ∷ after) value rest e =
      let found = told-found (told token) token after value rest refl e in
      (token ∷ [], ap (λ behind. token ∷ behind) found.1, (token, refl, found.0))

  one-complete : (before rest : List Token) (value : A) → One told before value → one told (before ++ rest) ≡ Ok (value, rest)
  unfolding one One
  one-complete before rest value (token, is, t) = rw is (rw t)

  one-opens : (heads : Heads) → ((token : Token) (value : A) → told token ≡ Some value → has heads token.kind ≡ true)
      → (tokens : List Token) (value : A) → One told tokens value → starts heads tokens ≡ true
  unfolding One starts
  one-opens heads within tokens value (token, is, t) = rw is (within token value t)

  -- a token that isn't found is the first one
  told-left : (found : Option A) (token : Token) (after : List Token) (left : ℕ)
      → told_or_refused found token after ≡ Err left → (found ≡ None) × (left ≡ suc (length after))
  told-left None token after left e = (refl, same_left _ left _ e refl)
  told-left (Some part) token after left e = cc

  one-left : (tokens : List Token) (left : ℕ) → one told tokens ≡ Err left → left ≡ length tokens
  unfolding one
  one-left [] left e = same_left _ left _ e refl
  one-left (token ∷ after) left e = (told-left (told token) token after left e).1

  pub one-Law : (heads : Heads) → ((token : Token) (value : A) → told token ≡ Some value → has heads token.kind ≡ true)
      → (token : Token) (value : A) → told token ≡ Some value → Law (One told) (One told) (one_shape heads) (one told)
  unfolding One
  one-Law heads within token value t = record {
    sound = one-sound;
    complete = λ before rest value is _. one-complete before rest value is;
    opens = one-opens heads within;
    widens = λ tokens value is. is;
    begun = λ tokens left e. ([], tokens, token ∷ [], value, refl, one-left tokens left e, (token, refl, t));
    some = (token ∷ [], value, (token, refl, t));
  }

  one-ahead : (before : List Token) (token : Token) (behind other : List Token) (value : A)
      → one told (before ++ token ∷ behind) ≡ Ok (value, token ∷ behind) → one told (before ++ token ∷ other) ≡ Ok (value, token ∷ other)
  one-ahead before token behind other value e =
      let read = one-sound (before ++ token ∷ behind) value (token ∷ behind) e in
      let same = append_cancel_right before read.0 (token ∷ behind) read.1 in
      one-complete before (token ∷ other) value (rw same read.2)

  one-ahead_faulty : (before : List Token) (token : Token) (behind other : List Token)
      → one told (before ++ token ∷ behind) ≡ Err (suc (length behind)) → one told (before ++ token ∷ other) ≡ Err (suc (length other))
  unfolding one
  one-ahead_faulty [] token behind other e =
      ap (λ found. told_or_refused found token other) (told-left (told token) token behind (suc (length behind)) e).0
  one-ahead_faulty (first ∷ before) token behind other e =
      let left = (told-left (told first) first (before ++ token ∷ behind) (suc (length behind)) e).1 in
      absurd (omega (arith, left, length-append before (token ∷ behind)))

  pub one-Ahead : Ahead (one told)
  one-Ahead = record { found = one-ahead; faulty = one-ahead_faulty }
