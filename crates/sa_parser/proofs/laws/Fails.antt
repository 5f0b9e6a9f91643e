-- Forms whose tokens don't pass tests.
use Rattle.std.proofs.Common.{◌≡◌, ℕ, Bool, true, false, List, [], ◌∷◌, ◌++◌, length, Option, Some, None, refl, ap, ◌∙◌, inl, inr, append_assoc}
use Rattle.std.proofs.lemmas.Bool.{and_left}
use Rattle.sa_lexer.specs.declared.token.Token.{Token}
use Rattle.sa_lexer.specs.declared.token.TokenKind.{TokenKind}
use Rattle.sa_parser.specs.Form.{Form, Made, Then, Either, Perhaps, Many, Placed}
use Rattle.sa_parser.specs.inner.Reading.{Reader}
use Rattle.sa_parser.proofs.Heads.{Heads, has, starts, apart, within}
use Rattle.sa_parser.proofs.Law.{Shape, Law}
use Rattle.sa_parser.proofs.Matches.{matches, matches-fails, matches_all-length}
use Rattle.sa_parser.proofs.Opens.{Opens-full}
use Rattle.sa_parser.proofs.Starts.{starts-apart, starts-narrower}
use Rattle.sa_parser.proofs.LooksAhead.{Exactly, Fails}

-- the first token is not in the set of the first test
pub starts-fails : (heads : Heads) (tests : List (TokenKind → Bool)) (tokens : List Token) → starts heads tokens ≡ false
    → matches (has heads ∷ tests) tokens ≡ false
unfolding starts
starts-fails heads tests [] h = refl
starts-fails heads tests (token ∷ rest) h = and_left (has heads token.kind) (matches tests rest) h

-- a form whose first token doesn't pass the first test
pub Law-Fails : {A : Type 0} {Is Wide : Form A} {shape : Shape} {read : Reader A} (heads : Heads) (tests : List (TokenKind → Bool)) (further : Heads)
    → Law Is Wide shape read → shape.blank ≡ false → apart shape.opens heads ≡ true → Fails (has heads ∷ tests) further Is
Law-Fails {shape} heads tests further law full a = record {
  is = λ before rest value is quiet.
      let begins = Opens-full shape.blank shape.opens before full (law.opens before value is) in
      starts-fails heads tests (before ++ rest) (starts-apart shape.opens heads before rest a begins);
}

-- a form of so many tokens, where what follows doesn't pass the next test
pub Exactly-Fails : {A : Type 0} {known : List (TokenKind → Bool)} {Is : Form A} (tests : List (TokenKind → Bool)) (heads : Heads)
    (more : List (TokenKind → Bool)) (further : Heads) → Exactly known Is → length known ≡ length tests → within heads further ≡ true
    → Fails (tests ++ has heads ∷ more) further Is
Exactly-Fails {known} tests heads more further exactly l w = record {
  is = λ before rest value is quiet.
      matches-fails tests (has heads ∷ more) before rest (matches_all-length known before (exactly.is before value is) ∙ l)
      (starts-fails heads more rest (starts-narrower heads further rest w quiet));
}

-- a form of so many tokens, and one that doesn't pass the further tests
pub then-Fails : {A B : Type 0} {known more : List (TokenKind → Bool)} {further : Heads} {First : Form (A → B)} {Second : Form A}
    (tests : List (TokenKind → Bool)) → Exactly known First → length known ≡ length tests → Fails more further Second
    → Fails (tests ++ more) further (Then First Second)
unfolding Then
then-Fails {known} {more} tests exactly l fails = record {
  is = λ before rest value is quiet.
      let (front, back, make, part, parts, begins, ends, v) = is in
      ap (matches (tests ++ more)) (ap (λ tokens. tokens ++ rest) parts ∙ append_assoc front back rest)
      ∙ matches-fails tests more front (back ++ rest) (matches_all-length known front (exactly.is front make begins) ∙ l) (fails.is back rest part ends quiet);
}

module _ {A B : Type 0} {tests : List (TokenKind → Bool)} {further : Heads} {Is : Form A} where
  pub made-Fails : (make : A → B) → Fails tests further Is → Fails tests further (Made make Is)
  unfolding Made
  made-Fails make fails = record { is = λ before rest value is quiet. fails.is before rest is.0 is.1 quiet }

  pub placed-Fails : (make : ℕ → A → B) → Fails tests further Is → Fails tests further (Placed make Is)
  unfolding Placed
  placed-Fails make fails = record { is = λ before rest value is quiet. fails.is before rest is.0 is.1 quiet }

pub either-Fails : {A : Type 0} {tests : List (TokenKind → Bool)} {further : Heads} {First Second : Form A}
    → Fails tests further First → Fails tests further Second → Fails tests further (Either First Second)
unfolding Either
either-Fails one other = record {
  is = λ before rest value is quiet.
      elim is [ inl first ↦ one.is before rest value first quiet | inr second ↦ other.is before rest value second quiet ];
}

perhaps-fails : {A : Type 0} (heads : Heads) {more : List (TokenKind → Bool)} {further : Heads} {Is : Form A} → Fails (has heads ∷ more) further Is
    → within heads further ≡ true → (before rest : List Token) (value : Option A) → Perhaps Is before value → starts further rest ≡ false
    → matches (has heads ∷ more) (before ++ rest) ≡ false
unfolding Perhaps
perhaps-fails heads {more} {further} fails w before rest None is quiet =
    ap (λ tokens. matches (has heads ∷ more) (tokens ++ rest)) is ∙ starts-fails heads more rest (starts-narrower heads further rest w quiet)
perhaps-fails heads fails w before rest (Some value) is quiet = fails.is before rest value is quiet

pub perhaps-Fails : {A : Type 0} (heads : Heads) {more : List (TokenKind → Bool)} {further : Heads} {Is : Form A} → Fails (has heads ∷ more) further Is
    → within heads further ≡ true → Fails (has heads ∷ more) further (Perhaps Is)
perhaps-Fails heads fails w = record { is = perhaps-fails heads fails w }

module _ {B : Type 0} {Next Wide : Form B} {shape : Shape} {next : Reader B} (heads : Heads) (more : List (TokenKind → Bool)) (further : Heads)
    (law : Law Next Wide shape next) where
  many-fails : shape.blank ≡ false → apart shape.opens heads ≡ true → within heads further ≡ true
      → (before rest : List Token) (values : List B) → Many Next before values → starts further rest ≡ false
      → matches (has heads ∷ more) (before ++ rest) ≡ false
  unfolding Many
  many-fails full a w before rest [] are quiet =
      ap (λ tokens. matches (has heads ∷ more) (tokens ++ rest)) are ∙ starts-fails heads more rest (starts-narrower heads further rest w quiet)
  many-fails full a w before rest (value ∷ values) (front, back, parts, is, are) quiet =
      let begins = Opens-full shape.blank shape.opens front full (law.opens front value is) in
      ap (matches (has heads ∷ more)) (ap (λ tokens. tokens ++ rest) parts ∙ append_assoc front back rest)
      ∙ starts-fails heads more (front ++ (back ++ rest)) (starts-apart shape.opens heads front (back ++ rest) a begins)

  pub many-Fails : shape.blank ≡ false → apart shape.opens heads ≡ true → within heads further ≡ true → Fails (has heads ∷ more) further (Many Next)
  many-Fails full a w = record { is = many-fails full a w }
