-- A reading with the place of its first token.
use Rattle.std.proofs.Common.{◌≡◌, ℕ, suc, true, false, List, [], ◌∷◌, ◌++◌, length, Ok, Err, refl, sym, ap, ◌∙◌}
use Rattle.std.proofs.lemmas.Bool.{false≢true}
use Rattle.sa_lexer.specs.declared.token.Token.{Token}
use Rattle.sa_parser.specs.Form.{Form, Placed}
use Rattle.sa_parser.specs.inner.Reading.{Reader, made, placed}
use Rattle.sa_parser.specs.Token.{first_place}
use Rattle.sa_parser.proofs.Heads.{Heads, starts}
use Rattle.sa_parser.proofs.Law.{Shape, Law, Ahead, Deeper}
use Rattle.sa_parser.proofs.Opens.{Opens-full}
use Rattle.sa_parser.proofs.laws.Made.{made-computes, made-fails, made-found, made-faulty}

first_place-append : (heads : Heads) (before rest : List Token) → starts heads before ≡ true → first_place (before ++ rest) ≡ first_place before
unfolding starts
first_place-append heads [] rest h = absurd (false≢true h)
first_place-append heads (token ∷ before) rest h = refl

first_place-other : (before : List Token) (token : Token) (behind other : List Token)
    → first_place (before ++ token ∷ behind) ≡ first_place (before ++ token ∷ other)
first_place-other [] token behind other = refl
first_place-other (first ∷ before) token behind other = refl

module _ {A B : Type 0} (make : ℕ → A → B) (read : Reader A) where
  placed-is : (tokens : List Token) → placed make read tokens ≡ made (make (first_place tokens)) read tokens
  unfolding placed made
  placed-is tokens = refl

  placed-computes : (tokens : List Token) (part : A) (rest : List Token) (value : B) → read tokens ≡ Ok (part, rest) → value ≡ make (first_place tokens) part
      → placed make read tokens ≡ Ok (value, rest)
  placed-computes tokens part rest value e v =
      placed-is tokens ∙ made-computes (make (first_place tokens)) read tokens part rest e ∙ ap (λ found. Ok (found, rest)) (sym v)

  placed-fails : (tokens : List Token) (left : ℕ) → read tokens ≡ Err left → placed make read tokens ≡ Err left
  placed-fails tokens left e = placed-is tokens ∙ made-fails (make (first_place tokens)) read tokens left e

  placed-found : (tokens : List Token) (value : B) (rest : List Token) → placed make read tokens ≡ Ok (value, rest)
      → (part : A) × (read tokens ≡ Ok (part, rest)) × (value ≡ make (first_place tokens) part)
  placed-found tokens value rest e = made-found (make (first_place tokens)) read tokens value rest (sym (placed-is tokens) ∙ e)

  placed-faulty : (tokens : List Token) (left : ℕ) → placed make read tokens ≡ Err left → read tokens ≡ Err left
  placed-faulty tokens left e = made-faulty (make (first_place tokens)) read tokens left (sym (placed-is tokens) ∙ e)

module _ {A B : Type 0} {Is Wide : Form A} {shape : Shape} {read : Reader A} (make : ℕ → A → B) (law : Law Is Wide shape read)
    (full : shape.blank ≡ false) where
  same_place : (before rest : List Token) (part : A) → Is before part → first_place (before ++ rest) ≡ first_place before
  same_place before rest part is =
      first_place-append shape.opens before rest (Opens-full shape.blank shape.opens before full (law.opens before part is))

  placed-sound : (tokens : List Token) (value : B) (rest : List Token) → placed make read tokens ≡ Ok (value, rest)
      → (before : List Token) × (tokens ≡ before ++ rest) × Placed make Is before value
  unfolding Placed
  placed-sound tokens value rest e =
      let (part, f, v) = placed-found make read tokens value rest e in
      let (before, parts, is) = law.sound tokens part rest f in
      (before, parts, (part, is, v ∙ ap (λ place. make place part) (ap first_place parts ∙ same_place before rest part is)))

  placed-complete : (before rest : List Token) (value : B) → Placed make Is before value → starts shape.goes_on rest ≡ false
      → placed make read (before ++ rest) ≡ Ok (value, rest)
  unfolding Placed
  placed-complete before rest value (part, is, v) quiet =
      placed-computes make read (before ++ rest) part rest value (law.complete before rest part is quiet)
      (v ∙ ap (λ place. make place part) (sym (same_place before rest part is)))

  pub placed-Law : Law (Placed make Is) (Placed make Wide) shape (placed make read)
  unfolding Placed
  placed-Law = record {
    sound = placed-sound;
    complete = placed-complete;
    opens = λ tokens value is. law.opens tokens is.0 is.1;
    widens = λ tokens value is. (is.0, law.widens tokens is.0 is.1, is.2);
    begun = λ tokens left e.
        let (before, behind, after, part, parts, count, wide) = law.begun tokens left (placed-faulty make read tokens left e) in
        (before, behind, after, make (first_place (before ++ after)) part, parts, count, (part, wide, refl));
    some = (law.some.0, make (first_place law.some.0) law.some.1, (law.some.1, law.some.2, refl));
  }

pub placed-Ahead : {A B : Type 0} {read : Reader A} (make : ℕ → A → B) → Ahead read → Ahead (placed make read)
placed-Ahead {read} make ahead = record {
  found = λ before token behind other value e.
      let (part, f, v) = placed-found make read (before ++ token ∷ behind) value (token ∷ behind) e in
      placed-computes make read (before ++ token ∷ other) part (token ∷ other) value (ahead.found before token behind other part f)
      (v ∙ ap (λ place. make place part) (first_place-other before token behind other));
  faulty = λ before token behind other e.
      placed-fails make read (before ++ token ∷ other) (suc (length other))
      (ahead.faulty before token behind other (placed-faulty make read (before ++ token ∷ behind) (suc (length behind)) e));
}

pub placed-Deeper : {A B : Type 0} {levels : ℕ} {read deeper : Reader A} (make : ℕ → A → B)
    → Deeper levels read deeper → Deeper levels (placed make read) (placed make deeper)
placed-Deeper {read} {deeper} make keeps = record {
  found = λ tokens value rest e.
      let (part, f, v) = placed-found make read tokens value rest e in
      placed-computes make deeper tokens part rest value (keeps.found tokens part rest f) v;
  faulty = λ tokens left e few. placed-fails make deeper tokens left (keeps.faulty tokens left (placed-faulty make read tokens left e) few);
}
