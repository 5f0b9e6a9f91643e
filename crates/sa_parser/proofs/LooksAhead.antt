-- Looks at several tokens, and which tests the tokens of a form pass.
use Rattle.std.proofs.Common.{◌≡◌, Bool, true, false, ◌&&◌, List, [], ◌∷◌, ◌++◌, drop, sym, ap, ap₂, ◌∙◌}
use Rattle.std.proofs.Math.Bool.{and-true}
use Rattle.sa_lexer.specs.declared.token.Token.{Token}
use Rattle.sa_lexer.specs.declared.token.TokenKind.{TokenKind}
use Rattle.sa_parser.specs.Form.{Form}
use Rattle.sa_parser.proofs.Heads.{Heads, has, starts}
use Rattle.sa_parser.proofs.Looks.{Looks}
use Rattle.sa_parser.proofs.Matches.{matches, matches_part, matches_all}

-- A look tells whether the first tokens pass the tests.
pub record LooksAhead (tests : List (TokenKind → Bool)) (looks : List Token → Bool) : Type 0 where
  pub is : (tokens : List Token) → looks tokens ≡ matches tests tokens

-- The tokens of the form begin with some that pass the tests.
pub record Passes {A : Type 0} (tests : List (TokenKind → Bool)) (Is : Form A) : Type 0 where
  pub is : (tokens : List Token) (value : A) → Is tokens value → matches tests tokens ≡ true

-- The tokens of the form pass the tests, one each.
pub record Exactly {A : Type 0} (tests : List (TokenKind → Bool)) (Is : Form A) : Type 0 where
  pub is : (tokens : List Token) (value : A) → Is tokens value → matches_all tests tokens ≡ true

-- The tokens of the form don't pass the tests, whatever can follow them.
pub record Fails {A : Type 0} (tests : List (TokenKind → Bool)) (further : Heads) (Is : Form A) : Type 0 where
  pub is : (before rest : List Token) (value : A) → Is before value → starts further rest ≡ false → matches tests (before ++ rest) ≡ false

-- Tokens that pass the tests, one each, are in the form.
pub record Suffices {A : Type 0} (tests : List (TokenKind → Bool)) (Is : Form A) : Type 0 where
  pub is : (tokens : List Token) → matches_all tests tokens ≡ true → (value : A) × Is tokens value

-- Tokens that pass the first tests, where further tests are left, begin the form.
pub record Begins {A : Type 0} (tests : List (TokenKind → Bool)) (Is : Form A) : Type 0 where
  pub is : (token : Token) (rest : List Token) → matches_part tests (token ∷ rest) ≡ true
      → (after : List Token) × (value : A) × Is ((token ∷ rest) ++ after) value

-- a look at the first token, and one at those behind it
pub next-LooksAhead : {heads : Heads} {tests : List (TokenKind → Bool)} {looks also : List Token → Bool} → Looks heads looks → LooksAhead tests also
    → LooksAhead (has heads ∷ tests) (λ tokens. looks tokens && also (drop 1 tokens))
unfolding starts
next-LooksAhead {tests} {also} look further = record {
  is = elim [
    | [] ↦ ap (λ sees. sees && also (drop 1 [])) (look.is [])
    | token ∷ rest ↦ ap₂ ◌&&◌ (look.is (token ∷ rest)) (further.is rest)
  ];
}

pub last-LooksAhead : {heads : Heads} {looks : List Token → Bool} → Looks heads looks → LooksAhead (has heads ∷ []) looks
unfolding starts
last-LooksAhead {heads} look = record {
  is = elim [ [] ↦ look.is [] | token ∷ rest ↦ look.is (token ∷ rest) ∙ sym (and-true (has heads token.kind)) ];
}
