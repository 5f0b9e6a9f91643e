-- A reading, of whose value something is made.
use Rattle.std.proofs.Common.{◌≡◌, ℕ, suc, List, ◌∷◌, ◌++◌, length, Ok, Err, refl, sym, ap, ◌∙◌, inl, inr}
use Rattle.sa_lexer.specs.declared.token.Token.{Token}
use Rattle.sa_parser.specs.Form.{Form, Made}
use Rattle.sa_parser.specs.inner.Reading.{Reader, given, made}
use Rattle.sa_parser.proofs.Law.{Shape, Law, Ahead, Deeper}
use Rattle.sa_parser.proofs.Outcomes.{same_value, same_rest, and_then-found, and_then-faulty}

module _ {A B : Type 0} (make : A → B) (read : Reader A) where
  pub made-computes : (tokens : List Token) (part : A) (rest : List Token) → read tokens ≡ Ok (part, rest) → made make read tokens ≡ Ok (make part, rest)
  unfolding made
  made-computes tokens part rest e = rw e

  pub made-fails : (tokens : List Token) (left : ℕ) → read tokens ≡ Err left → made make read tokens ≡ Err left
  unfolding made
  made-fails tokens left e = rw e

  pub made-found : (tokens : List Token) (value : B) (rest : List Token) → made make read tokens ≡ Ok (value, rest)
      → (part : A) × (read tokens ≡ Ok (part, rest)) × (value ≡ make part)
  unfolding made
  made-found tokens value rest e =
      let (part, behind, f, g) = and_then-found (λ part. given (make part)) (read tokens) value rest e in
      (part, f ∙ ap (λ after. Ok (part, after)) (same_rest (make part) value behind rest g), sym (same_value (make part) value behind rest g))

  pub made-faulty : (tokens : List Token) (left : ℕ) → made make read tokens ≡ Err left → read tokens ≡ Err left
  unfolding made
  made-faulty tokens left e =
      elim (and_then-faulty (λ part. given (make part)) (read tokens) left e) [
        | inl f ↦ f
        | inr found ↦ let (part, behind, f, g) = found in cc
      ]

pub made-Law : {A B : Type 0} {Is Wide : Form A} {shape : Shape} {read : Reader A} (make : A → B)
    → Law Is Wide shape read → Law (Made make Is) (Made make Wide) shape (made make read)
unfolding Made
made-Law {read} make law = record {
  sound = λ tokens value rest e.
      let (part, f, v) = made-found make read tokens value rest e in
      let (before, parts, is) = law.sound tokens part rest f in
      (before, parts, (part, is, v));
  complete = λ before rest value is quiet.
      let (part, one, v) = is in
      rw v (made-computes make read (before ++ rest) part rest (law.complete before rest part one quiet));
  opens = λ tokens value is. law.opens tokens is.0 is.1;
  widens = λ tokens value is. (is.0, law.widens tokens is.0 is.1, is.2);
  begun = λ tokens left e.
      let (before, behind, after, part, parts, count, wide) = law.begun tokens left (made-faulty make read tokens left e) in
      (before, behind, after, make part, parts, count, (part, wide, refl));
  some = (law.some.0, make law.some.1, (law.some.1, law.some.2, refl));
}

pub made-Ahead : {A B : Type 0} {read : Reader A} (make : A → B) → Ahead read → Ahead (made make read)
made-Ahead {read} make ahead = record {
  found = λ before token behind other value e.
      let (part, f, v) = made-found make read (before ++ token ∷ behind) value (token ∷ behind) e in
      rw v (made-computes make read (before ++ token ∷ other) part (token ∷ other) (ahead.found before token behind other part f));
  faulty = λ before token behind other e.
      made-fails make read (before ++ token ∷ other) (suc (length other))
      (ahead.faulty before token behind other (made-faulty make read (before ++ token ∷ behind) (suc (length behind)) e));
}

pub made-Deeper : {A B : Type 0} {levels : ℕ} {read deeper : Reader A} (make : A → B)
    → Deeper levels read deeper → Deeper levels (made make read) (made make deeper)
made-Deeper {read} {deeper} make keeps = record {
  found = λ tokens value rest e.
      let (part, f, v) = made-found make read tokens value rest e in
      rw v (made-computes make deeper tokens part rest (keeps.found tokens part rest f));
  faulty = λ tokens left e few. made-fails make deeper tokens left (keeps.faulty tokens left (made-faulty make read tokens left e) few);
}
