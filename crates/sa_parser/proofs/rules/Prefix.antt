-- Forms whose tokens don't pass tests, because of how they begin.
use Rattle.std.proofs.Common.{◌≡◌, Bool, true, false, List, [], ◌∷◌, ◌++◌, refl, sym, ap, ◌∙◌, append_assoc}
use Rattle.std.proofs.lemmas.Bool.{false≢true, false_from_ne_true, both_ways, and_parts, and_from}
use Rattle.sa_lexer.specs.declared.token.Token.{Token}
use Rattle.sa_lexer.specs.declared.token.TokenKind.{TokenKind}
use Rattle.sa_parser.specs.Form.{Form, Made, Then, Many, Chain}
use Rattle.sa_parser.specs.inner.Reading.{Reader}
use Rattle.sa_parser.proofs.Heads.{Heads, none, has, starts, apart, within}
use Rattle.sa_parser.proofs.Law.{Shape, Law}
use Rattle.sa_parser.proofs.Matches.{matches, matches_all}
use Rattle.sa_parser.proofs.Opens.{Opens-full, quiet-append}
use Rattle.sa_parser.proofs.Outcomes.{same_rest}
use Rattle.sa_parser.proofs.Starts.{starts-none, starts-apart, starts-narrower}
use Rattle.sa_parser.proofs.LooksAhead.{Fails, Suffices}
use Rattle.sa_parser.proofs.laws.Fails.{starts-fails}

matches-split : (tests more : List (TokenKind → Bool)) (tokens : List Token) → matches (tests ++ more) tokens ≡ true
    → (front back : List Token) × (tokens ≡ front ++ back) × (matches_all tests front ≡ true) × (matches more back ≡ true)
matches-split [] more tokens m = ([], tokens, refl, refl, m)
matches-split (test ∷ tests) more [] m = absurd (false≢true m)
matches-split (test ∷ tests) more (token ∷ rest) m =
    let (here, behind) = and_parts (test token.kind) (matches (tests ++ more) rest) m in
    let (front, back, parts, one, other) = matches-split tests more rest behind in
    (token ∷ front, back, ap (λ tokens. token ∷ tokens) parts, and_from (test token.kind) (matches_all tests front) here one, other)

-- A form whose tokens begin otherwise, if there are any.
pub opens-Fails : {A : Type 0} {Is Wide : Form A} {shape : Shape} {read : Reader A} (heads : Heads) (tests : List (TokenKind → Bool)) (further : Heads)
    → Law Is Wide shape read → apart shape.opens heads ≡ true → within heads further ≡ true → Fails (has heads ∷ tests) further Is
opens-Fails {shape} heads tests further law a w = record {
  is = λ before rest value is quiet.
      starts-fails heads tests (before ++ rest)
      (quiet-append shape.blank shape.opens heads before rest a (law.opens before value is) (λ _. starts-narrower heads further rest w quiet));
}

module _ {A B : Type 0} {tests more : List (TokenKind → Bool)} {further opens : Heads} {blank : Bool} {First AlsoFirst : Form (A → B)} {Second : Form A}
    {first : Reader (A → B)} (begins : Law First AlsoFirst (record { opens = opens; blank = blank; goes_on = none }) first) where
  -- Tokens that pass the first tests are in the first form, which tokens are in up to one place only, and the second form
  -- doesn't pass the further tests.
  pub behind-Fails : Suffices tests First → Fails more further Second → Fails (tests ++ more) further (Then First Second)
  unfolding Then
  behind-Fails suffices fails = record {
    is = λ before rest value is quiet.
        let (front, back, make, part, parts, one, other, v) = is in
        let whole : before ++ rest ≡ front ++ (back ++ rest) = ap (λ tokens. tokens ++ rest) parts ∙ append_assoc front back rest in
        false_from_ne_true (matches (tests ++ more) (before ++ rest)) (λ m.
        let (passed, left, split, all, those) = matches-split tests more (before ++ rest) m in
        let (another, also) = suffices.is passed all in
        let same = same_rest make another (back ++ rest) left
        (sym (begins.complete front (back ++ rest) make one (starts-none (back ++ rest))) ∙ ap first (sym whole ∙ split)
        ∙ begins.complete passed left another also (starts-none left)) in
        both_ways (matches more left) (ap (matches more) (sym same) ∙ fails.is back rest part other quiet) those);
  }

module _ {B : Type 0} {Next Wide : Form B} {shape : Shape} {next : Reader B} (law : Law Next Wide shape next) (full : shape.blank ≡ false)
    (further : Heads) (a : apart shape.opens further ≡ true) where
  many-quiet : (back rest : List Token) (values : List B) → Many Next back values → starts further rest ≡ false → starts further (back ++ rest) ≡ false
  unfolding Many
  many-quiet back rest [] are quiet = ap (λ tokens. starts further (tokens ++ rest)) are ∙ quiet
  many-quiet back rest (value ∷ values) (front, behind, parts, is, are) quiet =
      ap (starts further) (ap (λ tokens. tokens ++ rest) parts ∙ append_assoc front behind rest)
      ∙ starts-apart shape.opens further front (behind ++ rest) a (Opens-full shape.blank shape.opens front full (law.opens front value is))

  -- a beginning whose tokens don't pass, and further parts
  pub chain-Fails : {A : Type 0} {tests : List (TokenKind → Bool)} {First : Form A} (take : A → B → A) → Fails tests further First
      → Fails tests further (Chain First take Next)
  unfolding Then Made
  chain-Fails {tests} take fails = record {
    is = λ before rest value is quiet.
        let (front, back, make, parts_of, parts, (part, begins, m), are, v) = is in
        ap (matches tests) (ap (λ tokens. tokens ++ rest) parts ∙ append_assoc front back rest)
        ∙ fails.is front (back ++ rest) part begins (many-quiet back rest parts_of are quiet);
  }
