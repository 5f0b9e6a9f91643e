-- Readers that fail where the first tokens pass tests.
use Rattle.std.proofs.Common.{◌≡◌, ℕ, Bool, true, false, List, [], ◌∷◌, ◌++◌, Ok, Err, refl, ap, ◌∙◌, inl, inr, append_assoc}
use Rattle.std.proofs.lemmas.Bool.{false≢true, both_ways, cases_Bool, false_from_ne_true, and_parts, and_from}
use Rattle.sa_lexer.specs.declared.token.Token.{Token}
use Rattle.sa_lexer.specs.declared.token.TokenKind.{TokenKind}
use Rattle.sa_parser.specs.Form.{Form, Then}
use Rattle.sa_parser.specs.inner.Reading.{Reader, Outcome, made, then_read, either, perhaps, chain}
use Rattle.sa_parser.proofs.Heads.{Heads, has, starts, apart, within}
use Rattle.sa_parser.proofs.Law.{Shape, Law}
use Rattle.sa_parser.proofs.Looks.{Looks}
use Rattle.sa_parser.proofs.Matches.{matches}
use Rattle.sa_parser.proofs.Opens.{Opens-full, quiet-append}
use Rattle.sa_parser.proofs.Starts.{starts-none, starts-append, starts-apart, starts-within}
use Rattle.sa_parser.proofs.LooksAhead.{Suffices, Fails}
use Rattle.sa_parser.proofs.laws.Either.{either-first, either-second}
use Rattle.sa_parser.proofs.laws.Made.{made-fails}
use Rattle.sa_parser.proofs.laws.One.{one_shape}
use Rattle.sa_parser.proofs.laws.Then.{then-fails_first, then-fails_second}

pub record Refuses {A : Type 0} (tests : List (TokenKind → Bool)) (read : Reader A) : Type 0 where
  pub is : (tokens : List Token) → matches tests tokens ≡ true → (left : ℕ) × (read tokens ≡ Err left)

-- a reading fails, unless it finds something
unless_found : {A : Type 0} (outcome : Outcome A) → ((value : A) (rest : List Token) → outcome ≡ Ok (value, rest) → ⊥) → (left : ℕ) × (outcome ≡ Err left)
unless_found (Ok found) never = absurd (never found.0 found.1 refl)
unless_found (Err left) never = (left, refl)

-- what doesn't begin with the first token
pub Law-Refuses : {A : Type 0} {Is Wide : Form A} {shape : Shape} {read : Reader A} (first : Heads) (tests : List (TokenKind → Bool))
    → Law Is Wide shape read → shape.blank ≡ false → apart first shape.opens ≡ true → Refuses (has first ∷ tests) read
unfolding starts
Law-Refuses {shape} {read} first tests law full a = record {
  is = elim [
    | [] ↦ λ m. absurd (false≢true m)
    | token ∷ rest ↦ λ m.
        unless_found (read (token ∷ rest)) (λ value behind e.
        let (before, parts, is) = law.sound (token ∷ rest) value behind e in
        let begins = starts-append shape.opens before behind (Opens-full shape.blank shape.opens before full (law.opens before value is)) in
        let other = starts-apart first shape.opens (token ∷ []) rest a (and_parts (has first token.kind) (matches tests rest) m).0 in
        both_ways _ other (ap (starts shape.opens) parts ∙ begins))
  ];
}

module _ {A B : Type 0} {tests : List (TokenKind → Bool)} {read : Reader A} where
  pub made-Refuses : (make : A → B) → Refuses tests read → Refuses tests (made make read)
  made-Refuses make refuses = record {
    is = λ tokens m. let (left, e) = refuses.is tokens m in (left, made-fails make read tokens left e);
  }

  pub chain-Refuses : (looks : List Token → Bool) (take : A → B → A) (next : Reader B) → Refuses tests read → Refuses tests (chain read looks take next)
  unfolding chain
  chain-Refuses looks take next refuses = record { is = λ tokens m. let (left, e) = refuses.is tokens m in (left, rw e) }

module _ {A B : Type 0} {first : Reader (A → B)} where
  pub then-Refuses : {tests : List (TokenKind → Bool)} (second : Reader A) → Refuses tests first → Refuses tests (then_read first second)
  then-Refuses second refuses = record {
    is = λ tokens m. let (left, e) = refuses.is tokens m in (left, then-fails_first first second tokens left e);
  }

  -- a token that is read, and what fails behind it
  pub then_second-Refuses : {test : TokenKind → Bool} {tests : List (TokenKind → Bool)} {First AlsoFirst : Form (A → B)} {heads : Heads} {second : Reader A}
      → Suffices (test ∷ []) First → Law First AlsoFirst (one_shape heads) first → Refuses tests second → Refuses (test ∷ tests) (then_read first second)
  then_second-Refuses {test} {tests} {second = second} suffices law refuses = record {
    is = elim [
      | [] ↦ λ m. absurd (false≢true m)
      | token ∷ rest ↦ λ m.
          let (here, behind) = and_parts (test token.kind) (matches tests rest) m in
          let (make, is) = suffices.is (token ∷ []) (and_from (test token.kind) true here refl) in
          let (left, e) = refuses.is rest behind in
          (left, then-fails_second first second (token ∷ rest) make rest left (law.complete (token ∷ []) rest make is (starts-none rest)) e)
    ];
  }

-- two readings that fail, whatever the look says
pub either-Refuses : {A : Type 0} {tests : List (TokenKind → Bool)} (looks : List Token → Bool) {first second : Reader A}
    → Refuses tests first → Refuses tests second → Refuses tests (either looks first second)
either-Refuses looks {first} {second} one other = record {
  is = λ tokens m.
      let (left, e) = one.is tokens m in
      let (also, f) = other.is tokens m in
      elim (cases_Bool (looks tokens)) [
        | inl sees ↦ (left, either-first looks first second tokens sees ∙ e)
        | inr not ↦ (also, either-second looks first second tokens not ∙ f)
      ];
}

-- a look that says no, and a reading that fails
pub unseen-Refuses : {A : Type 0} {tests : List (TokenKind → Bool)} (looks : List Token → Bool) (first : Reader A) {second : Reader A}
    → ((tokens : List Token) → matches tests tokens ≡ true → looks tokens ≡ false) → Refuses tests second → Refuses tests (either looks first second)
unseen-Refuses looks first {second} misses refuses = record {
  is = λ tokens m. let (left, e) = refuses.is tokens m in (left, either-second looks first second tokens (misses tokens m) ∙ e);
}

-- a look that says yes, and a reading that fails
pub perhaps-Refuses : {A : Type 0} (first : Heads) {heads : Heads} {tests : List (TokenKind → Bool)} {looks : List Token → Bool} {read : Reader A} → Looks heads looks
    → within first heads ≡ true → Refuses (has first ∷ tests) read → Refuses (has first ∷ tests) (perhaps looks read)
unfolding starts perhaps
perhaps-Refuses first {heads} {tests} look w refuses = record {
  is = elim [
    | [] ↦ λ m. absurd (false≢true m)
    | token ∷ rest ↦ λ m.
        let (left, e) = refuses.is (token ∷ rest) m in
        let sees = look.is (token ∷ rest) ∙ starts-within first heads (token ∷ []) rest w (and_parts (has first token.kind) (matches tests rest) m).0 in
        (left, rw (sees, e))
  ];
}

-- What is refused is not in the form.
pub Refuses-Fails : {A : Type 0} {tests : List (TokenKind → Bool)} {Is Wide : Form A} {shape : Shape} {read : Reader A} → Law Is Wide shape read
    → Refuses tests read → Fails tests shape.goes_on Is
Refuses-Fails {tests} law refuses = record {
  is = λ before rest value is quiet.
      false_from_ne_true (matches tests (before ++ rest)) (λ m.
      let (left, e) = refuses.is (before ++ rest) m in
      let found = law.complete before rest value is quiet in
      cc);
}

-- The tokens of the first form don't pass the tests, whatever of the second form stands behind them.
pub then_first-Fails : {A B : Type 0} {tests : List (TokenKind → Bool)} {further : Heads} {First : Form (A → B)} {Second Wide : Form A} {shape : Shape}
    {read : Reader A} → Fails tests further First → Law Second Wide shape read → apart shape.opens further ≡ true → Fails tests further (Then First Second)
unfolding Then
then_first-Fails {tests} {further} {shape = shape} fails law a = record {
  is = λ before rest value is quiet.
      let (front, back, make, part, parts, begins, ends, v) = is in
      let behind = quiet-append shape.blank shape.opens further back rest a (law.opens back part ends) (λ _. quiet) in
      ap (matches tests) (ap (λ tokens. tokens ++ rest) parts ∙ append_assoc front back rest) ∙ fails.is front (back ++ rest) make begins behind;
}
