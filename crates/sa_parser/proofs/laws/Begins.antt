-- Tokens that pass tests, one each, are in a form; and tokens that pass the first tests begin it.
use Rattle.std.proofs.Common.{◌≡◌, ℕ, Bool, true, List, [], ◌∷◌, ◌++◌, Option, Some, None, option_map, if◌then◌else◌, is_some, refl, sym, ap, ◌∙◌, inl, inr}
use Rattle.std.proofs.lemmas.Bool.{false≢true, and_parts}
use Rattle.sa_lexer.specs.declared.sign.Sign.{Sign}
use Rattle.sa_lexer.specs.declared.token.Token.{Token}
use Rattle.sa_lexer.specs.declared.token.TokenKind.{TokenKind}
use Rattle.sa_parser.specs.Form.{Form, One, Made, Then, Either, Perhaps, Many, Placed}
use Rattle.sa_parser.specs.Token.{name_of, word_in, sign_in, name_in, first_place}
use Rattle.sa_parser.proofs.Heads.{has, only_word, only_sign, only_names, only_word-has, only_sign-has, only_names-has}
use Rattle.sa_parser.proofs.Matches.{matches_all, matches_all-split, matches_part-filled}
use Rattle.sa_parser.proofs.LooksAhead.{Suffices, Begins}

nothing : (tokens : List Token) → matches_all [] tokens ≡ true → tokens ≡ []
nothing [] m = refl
nothing (token ∷ rest) m = absurd (false≢true m)

pub one-Suffices : {A : Type 0} (told : Token → Option A) (test : TokenKind → Bool)
    → ((token : Token) → test token.kind ≡ true → (value : A) × (told token ≡ Some value)) → Suffices (test ∷ []) (One told)
unfolding One
one-Suffices told test tells = record {
  is = elim [
    | [] ↦ λ m. absurd (false≢true m)
    | token ∷ rest ↦ λ m.
        let (here, behind) = and_parts (test token.kind) (matches_all [] rest) m in
        let (value, t) = tells token here in
        (value, (token, ap (λ rest. token ∷ rest) (nothing rest behind), t))
  ];
}

pub word-Suffices : (text : List ℕ) → Suffices (has (only_word text) ∷ []) (One (word_in text))
word-Suffices text =
    one-Suffices (word_in text) (has (only_word text)) (λ token m.
    (token.start, ap (λ is. if is then Some token.start else None) (sym (only_word-has text token.kind) ∙ m)))

pub sign-Suffices : (which : Sign) → Suffices (has (only_sign which) ∷ []) (One (sign_in which))
sign-Suffices which =
    one-Suffices (sign_in which) (has (only_sign which)) (λ token m.
    (token.start, ap (λ is. if is then Some token.start else None) (sym (only_sign-has which token.kind) ∙ m)))

there : {X Y : Type 0} (make : X → Y) (found : Option X) → is_some found ≡ true → (value : Y) × (option_map make found ≡ Some value)
there make (Some part) m = (make part, refl)
there make None m = absurd (false≢true m)

pub name-Suffices : Suffices (has only_names ∷ []) (One name_in)
name-Suffices = one-Suffices name_in (has only_names) (λ token m. there _ (name_of token.kind) (sym (only_names-has token.kind) ∙ m))

module _ {A B : Type 0} {tests : List (TokenKind → Bool)} {Is : Form A} where
  pub made-Suffices : (make : A → B) → Suffices tests Is → Suffices tests (Made make Is)
  unfolding Made
  made-Suffices make suffices = record {
    is = λ tokens m. let (part, is) = suffices.is tokens m in (make part, (part, is, refl));
  }

  pub placed-Suffices : (make : ℕ → A → B) → Suffices tests Is → Suffices tests (Placed make Is)
  unfolding Placed
  placed-Suffices make suffices = record {
    is = λ tokens m. let (part, is) = suffices.is tokens m in (make (first_place tokens) part, (part, is, refl));
  }

pub then-Suffices : {A B : Type 0} {tests more : List (TokenKind → Bool)} {First : Form (A → B)} {Second : Form A}
    → Suffices tests First → Suffices more Second → Suffices (tests ++ more) (Then First Second)
unfolding Then
then-Suffices {tests} {more} one other = record {
  is = λ tokens m.
      let (before, after, parts, front, back) = matches_all-split tests more tokens m in
      let (make, begins) = one.is before front in
      let (part, ends) = other.is after back in
      (make part, (before, after, make, part, parts, begins, ends, refl));
}

module _ {A : Type 0} {tests : List (TokenKind → Bool)} where
  pub first-Suffices : {First : Form A} (Second : Form A) → Suffices tests First → Suffices tests (Either First Second)
  unfolding Either
  first-Suffices Second suffices = record { is = λ tokens m. let (value, is) = suffices.is tokens m in (value, inl is) }

  pub second-Suffices : (First : Form A) {Second : Form A} → Suffices tests Second → Suffices tests (Either First Second)
  unfolding Either
  second-Suffices First suffices = record { is = λ tokens m. let (value, is) = suffices.is tokens m in (value, inr is) }

  pub perhaps-Suffices : {Is : Form A} → Suffices tests Is → Suffices tests (Perhaps Is)
  unfolding Perhaps
  perhaps-Suffices suffices = record { is = λ tokens m. let (value, is) = suffices.is tokens m in (Some value, is) }

-- nothing at all is in some forms
pub none-Suffices : {A : Type 0} (Is : Form A) → Suffices [] (Perhaps Is)
unfolding Perhaps
none-Suffices Is = record { is = λ tokens m. (None, nothing tokens m) }

pub no_parts-Suffices : {A : Type 0} (Is : Form A) → Suffices [] (Many Is)
unfolding Many
no_parts-Suffices Is = record { is = λ tokens m. ([], nothing tokens m) }

-- Tokens that pass all tests but the last one, or fewer, begin a form that tokens of these tests and more are in. The examples pass them.
pub Suffices-Begins : {A : Type 0} {Is : Form A} (tests more : List (TokenKind → Bool)) (last : TokenKind → Bool) (examples : List Token)
    → Suffices (tests ++ more) Is → matches_all (tests ++ more) examples ≡ true → Begins (tests ++ last ∷ []) Is
Suffices-Begins tests more last examples suffices m = record {
  is = λ token rest p.
      let (after, filled) = matches_part-filled tests more last (token ∷ rest) examples p m in
      let (value, is) = suffices.is ((token ∷ rest) ++ after) filled in
      (after, value, is);
}
