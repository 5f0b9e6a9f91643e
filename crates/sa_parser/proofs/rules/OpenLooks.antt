-- A choice by several tokens, which never stops or fails at a token that leaves the look open.
use Rattle.std.proofs.Common.{◌≡◌, suc, Bool, true, List, [], ◌∷◌, ◌++◌, length, Ok, Err, sym, ◌∙◌, inl, inr}
use Rattle.sa_lexer.specs.declared.token.Token.{Token}
use Rattle.sa_lexer.specs.declared.token.TokenKind.{TokenKind}
use Rattle.sa_parser.specs.inner.Reading.{Reader, either}
use Rattle.sa_parser.proofs.Law.{Ahead}
use Rattle.sa_parser.proofs.Matches.{matches_part, matches-known}
use Rattle.sa_parser.proofs.LooksAhead.{LooksAhead}
use Rattle.sa_parser.proofs.laws.Either.{either-ahead_found, either-ahead_faulty}

-- The reader goes past each token up to which the tests leave it open what the look says.
pub record GoesPast {A : Type 0} (tests : List (TokenKind → Bool)) (read : Reader A) : Type 0 where
  pub found : (before : List Token) (token : Token) (behind : List Token) (value : A) → matches_part tests (before ++ token ∷ []) ≡ true
      → read (before ++ token ∷ behind) ≡ Ok (value, token ∷ behind) → ⊥
  pub faulty : (before : List Token) (token : Token) (behind : List Token) → matches_part tests (before ++ token ∷ []) ≡ true
      → read (before ++ token ∷ behind) ≡ Err (suc (length behind)) → ⊥

pub past-Ahead : {A : Type 0} {tests : List (TokenKind → Bool)} {looks : List Token → Bool} {first second : Reader A} → LooksAhead tests looks
    → Ahead first → Ahead second → GoesPast tests (either looks first second) → Ahead (either looks first second)
past-Ahead {tests} {looks} look ahead also past = record {
  found = λ before token behind after value e.
      elim (matches-known tests before token behind after) [
        | inl same ↦
            either-ahead_found looks ahead also before token behind after value
            (look.is (before ++ token ∷ behind) ∙ same ∙ sym (look.is (before ++ token ∷ after))) e
        | inr part ↦ absurd (past.found before token behind value part e)
      ];
  faulty = λ before token behind after e.
      elim (matches-known tests before token behind after) [
        | inl same ↦
            either-ahead_faulty looks ahead also before token behind after
            (look.is (before ++ token ∷ behind) ∙ same ∙ sym (look.is (before ++ token ∷ after))) e
        | inr part ↦ absurd (past.faulty before token behind part e)
      ];
}
