-- Where tokens are parted.
use Rattle.std.proofs.Common.{◌≡◌, ℕ, List, [], ◌∷◌, ◌++◌, length, Ok, Err, refl, ap, arith, length-append}
use Rattle.sa_lexer.specs.declared.token.Token.{Token}
use Rattle.sa_parser.specs.Form.{Form}
use Rattle.sa_parser.specs.inner.Reading.{Reader}
use Rattle.sa_parser.proofs.Law.{Shape, Law, Ahead}

module _ {X : Type 0} where
  -- a list is parted in one way only where the second part has so many elements
  pub parted : (before also rest behind : List X) → before ++ rest ≡ also ++ behind → length rest ≡ length behind → (before ≡ also) × (rest ≡ behind)
  parted [] [] rest behind e l = (refl, e)
  parted [] (x ∷ also) rest behind e l = absurd (omega (arith, l, ap length e, length-append also behind))
  parted (x ∷ before) [] rest behind e l = absurd (omega (arith, l, ap length e, length-append before rest))
  parted (x ∷ before) (y ∷ also) rest behind e l =
      let heads : x ≡ y = cc in
      let tails : before ++ rest ≡ also ++ behind = cc in
      let parts = parted before also rest behind tails l in
      ((λ i. heads i ∷ parts.0 i), parts.1)

-- A reader parts the tokens: what it read, and what is left behind or from the fault on.
pub record Parts {A : Type 0} (read : Reader A) : Type 0 where
  pub found : (tokens : List Token) (value : A) (rest : List Token) → read tokens ≡ Ok (value, rest)
      → (before : List Token) × (tokens ≡ before ++ rest)
  pub faulty : (tokens : List Token) (left : ℕ) → read tokens ≡ Err left
      → (before behind : List Token) × (tokens ≡ before ++ behind) × (left ≡ length behind)

pub Law-Parts : {A : Type 0} {Is Wide : Form A} {shape : Shape} {read : Reader A} → Law Is Wide shape read → Parts read
Law-Parts law = record {
  found = λ tokens value rest e. let (before, parts, is) = law.sound tokens value rest e in (before, parts);
  faulty = λ tokens left e.
      let (before, behind, after, value, parts, count, wide) = law.begun tokens left e in (before, behind, parts, count);
}

module _ {A : Type 0} {read : Reader A} (ahead : Ahead read) where
  -- What a reader finds stays the same whatever stands behind a token that it leaves.
  pub found-further : (before between : List Token) (token : Token) (behind other : List Token) (value : A)
      → read (before ++ (between ++ token ∷ behind)) ≡ Ok (value, between ++ token ∷ behind)
      → read (before ++ (between ++ token ∷ other)) ≡ Ok (value, between ++ token ∷ other)
  found-further before [] token behind other value e = ahead.found before token behind other value e
  found-further before (next ∷ between) token behind other value e =
      ahead.found before next (between ++ token ∷ behind) (between ++ token ∷ other) value e
