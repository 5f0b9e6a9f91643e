-- Forms of as many tokens as there are tests, each of which passes its test, and forms that begin so.
use Rattle.std.proofs.Common.{◌≡◌, ℕ, Bool, true, false, List, [], ◌∷◌, ◌++◌, Option, refl, ap, subst, ◌∙◌, inl, inr}
use Rattle.std.proofs.lemmas.Bool.{and_from}
use Rattle.sa_lexer.specs.declared.sign.Sign.{Sign}
use Rattle.sa_lexer.specs.declared.token.Token.{Token}
use Rattle.sa_lexer.specs.declared.token.TokenKind.{TokenKind}
use Rattle.sa_parser.specs.Form.{Form, One, Made, Then, Either, Placed}
use Rattle.sa_parser.specs.inner.Reading.{Reader}
use Rattle.sa_parser.specs.Token.{word_in, sign_in, name_in}
use Rattle.sa_parser.proofs.Heads.{Heads, has, starts, within, only_word, only_sign, only_names}
use Rattle.sa_parser.proofs.Law.{Shape, Law}
use Rattle.sa_parser.proofs.Matches.{matches, matches_all, matches-append, matches-append_both, matches_all-append, matches_all-matches}
use Rattle.sa_parser.proofs.Opens.{Opens-full}
use Rattle.sa_parser.proofs.Starts.{starts-wider}
use Rattle.sa_parser.proofs.LooksAhead.{Exactly, Passes}
use Rattle.sa_parser.proofs.laws.Words.{word-Law, sign-Law, name-Law}

-- the first token of a list is in the set
starts-matches : (heads : Heads) (tokens : List Token) → starts heads tokens ≡ true → matches (has heads ∷ []) tokens ≡ true
unfolding starts
starts-matches heads [] h = h
starts-matches heads (token ∷ rest) h = and_from (has heads token.kind) true h refl

pub one-Exactly : {A : Type 0} (told : Token → Option A) {Wide : Form A} {shape : Shape} {read : Reader A} → Law (One told) Wide shape read
    → shape.blank ≡ false → Exactly (has shape.opens ∷ []) (One told)
unfolding One
one-Exactly told {shape} law full = record {
  is = λ tokens value is.
      let begins = Opens-full shape.blank shape.opens tokens full (law.opens tokens value is) in
      let at : List Token → Type 0 = λ tokens. starts shape.opens tokens ≡ true in
      ap (matches_all (has shape.opens ∷ [])) is.1 ∙ starts-matches shape.opens (is.0 ∷ []) (subst at is.1 begins);
}

pub word-Exactly : (text : List ℕ) → Exactly (has (only_word text) ∷ []) (One (word_in text))
word-Exactly text = one-Exactly (word_in text) (word-Law text) refl

pub sign-Exactly : (which : Sign) → Exactly (has (only_sign which) ∷ []) (One (sign_in which))
sign-Exactly which = one-Exactly (sign_in which) (sign-Law which) refl

pub name-Exactly : Exactly (has only_names ∷ []) (One name_in)
name-Exactly = one-Exactly name_in name-Law refl

module _ {A B : Type 0} {tests : List (TokenKind → Bool)} {Is : Form A} where
  pub made-Exactly : (make : A → B) → Exactly tests Is → Exactly tests (Made make Is)
  unfolding Made
  made-Exactly make exactly = record { is = λ tokens value is. exactly.is tokens is.0 is.1 }

  pub placed-Exactly : (make : ℕ → A → B) → Exactly tests Is → Exactly tests (Placed make Is)
  unfolding Placed
  placed-Exactly make exactly = record { is = λ tokens value is. exactly.is tokens is.0 is.1 }

  pub made-Passes : (make : A → B) → Passes tests Is → Passes tests (Made make Is)
  unfolding Made
  made-Passes make passes = record { is = λ tokens value is. passes.is tokens is.0 is.1 }

  pub placed-Passes : (make : ℕ → A → B) → Passes tests Is → Passes tests (Placed make Is)
  unfolding Placed
  placed-Passes make passes = record { is = λ tokens value is. passes.is tokens is.0 is.1 }

module _ {A B : Type 0} {tests more : List (TokenKind → Bool)} {First : Form (A → B)} {Second : Form A} where
  pub then-Exactly : Exactly tests First → Exactly more Second → Exactly (tests ++ more) (Then First Second)
  unfolding Then
  then-Exactly one other = record {
    is = λ tokens value is.
        let (front, back, make, part, parts, begins, ends, v) = is in
        ap (matches_all (tests ++ more)) parts ∙ matches_all-append tests more front back (one.is front make begins) (other.is back part ends);
  }

  pub then-Passes : Exactly tests First → Passes more Second → Passes (tests ++ more) (Then First Second)
  unfolding Then
  then-Passes one other = record {
    is = λ tokens value is.
        let (front, back, make, part, parts, begins, ends, v) = is in
        ap (matches (tests ++ more)) parts ∙ matches-append_both tests more front back (one.is front make begins) ∙ other.is back part ends;
  }

pub then-Passes_first : {A B : Type 0} {tests : List (TokenKind → Bool)} {First : Form (A → B)} (Second : Form A)
    → Passes tests First → Passes tests (Then First Second)
unfolding Then
then-Passes_first {tests} Second one = record {
  is = λ tokens value is.
      let (front, back, make, part, parts, begins, ends, v) = is in
      ap (matches tests) parts ∙ matches-append tests front back (one.is front make begins);
}

module _ {A : Type 0} {tests : List (TokenKind → Bool)} {First Second : Form A} where
  pub either-Exactly : Exactly tests First → Exactly tests Second → Exactly tests (Either First Second)
  unfolding Either
  either-Exactly one other = record {
    is = λ tokens value is. elim is [ inl first ↦ one.is tokens value first | inr second ↦ other.is tokens value second ];
  }

  pub either-Passes : Passes tests First → Passes tests Second → Passes tests (Either First Second)
  unfolding Either
  either-Passes one other = record {
    is = λ tokens value is. elim is [ inl first ↦ one.is tokens value first | inr second ↦ other.is tokens value second ];
  }

pub Exactly-Passes : {A : Type 0} {tests : List (TokenKind → Bool)} {Is : Form A} → Exactly tests Is → Passes tests Is
Exactly-Passes {tests} exactly = record { is = λ tokens value is. matches_all-matches tests tokens (exactly.is tokens value is) }

-- a form begins with a token of its set
pub Law-Passes : {A : Type 0} {Is Wide : Form A} {shape : Shape} {read : Reader A} (heads : Heads) → Law Is Wide shape read
    → shape.blank ≡ false → within shape.opens heads ≡ true → Passes (has heads ∷ []) Is
Law-Passes {shape} heads law full w = record {
  is = λ tokens value is.
      let begins = Opens-full shape.blank shape.opens tokens full (law.opens tokens value is) in
      starts-matches heads tokens (starts-wider shape.opens heads tokens w begins);
}
