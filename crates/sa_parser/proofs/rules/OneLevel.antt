-- A form without levels, and its reader.
use Rattle.std.proofs.Common.{◌≡◌, ℕ, suc, List, [], ◌∷◌, ◌++◌, length, Ok, Err}
use Rattle.sa_lexer.specs.declared.token.Token.{Token}
use Rattle.sa_parser.specs.Fault.{Begins, FaultyAt}
use Rattle.sa_parser.specs.Form.{Form}
use Rattle.sa_parser.specs.inner.Reading.{Reader}
use Rattle.sa_parser.proofs.Law.{Shape, Law, Ahead}
use Rattle.sa_parser.proofs.laws.Levels.{same-Deeper}
use Rattle.sa_parser.proofs.rules.AnyLevel.{AtSome, Levelled, some-leftover, some-faulty}

module _ {A : Type 0} {Is : Form A} {shape : Shape} {read : Reader A} (law : Law Is Is shape read) (ahead : Ahead read) where
  -- each level is the same
  same-Levelled : Levelled (λ levels. Is) shape (λ levels. read)
  same-Levelled = record { law = λ levels. law; ahead = λ levels. ahead; keeps = λ levels more few. same-Deeper (suc levels) read }

  begins : (before : List Token) → Begins (AtSome (λ levels. Is)) before → Begins Is before
  begins before (after, value, (levels, is)) = (after, value, is)

  faulty-at : (before behind : List Token) → FaultyAt (AtSome (λ levels. Is)) before behind → FaultyAt Is before behind
  faulty-at before [] (begun, never) = (begins before begun, λ value is. never value (0, is))
  faulty-at before (token ∷ behind) (begun, never) = (begins before begun, λ (after, value, is). never (after, value, (0, is)))

  pub one-leftover : (tokens : List Token) (value : A) (token : Token) (behind : List Token) → read tokens ≡ Ok (value, token ∷ behind)
      → (before : List Token) × (tokens ≡ before ++ token ∷ behind) × FaultyAt Is before (token ∷ behind)
  one-leftover tokens value token behind e =
      let (before, parts, faulty) = some-leftover same-Levelled tokens value token behind e in
      (before, parts, faulty-at before (token ∷ behind) faulty)

  pub one-faulty : (tokens : List Token) (left : ℕ) → read tokens ≡ Err left
      → (before behind : List Token) × (tokens ≡ before ++ behind) × (left ≡ length behind) × FaultyAt Is before behind
  one-faulty tokens left e =
      let (before, behind, parts, count, faulty) = some-faulty same-Levelled tokens left e in
      (before, behind, parts, count, faulty-at before behind faulty)
