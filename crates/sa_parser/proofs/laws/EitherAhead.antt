-- One reading or another, by a look at several tokens.
use Rattle.std.proofs.Common.{◌≡◌, suc, Bool, true, false, ◌||◌, List, [], ◌∷◌, ◌++◌, length, Ok, Err, sym, subst, ◌∙◌, inl, inr, append_assoc}
use Rattle.sa_lexer.specs.declared.token.Token.{Token}
use Rattle.sa_lexer.specs.declared.token.TokenKind.{TokenKind}
use Rattle.sa_parser.specs.Form.{Form, Either}
use Rattle.sa_parser.specs.inner.Reading.{Reader, either}
use Rattle.sa_parser.proofs.Consequences.{found-alone, faulty-alone}
use Rattle.sa_parser.proofs.Heads.{Heads, or, starts}
use Rattle.sa_parser.proofs.Law.{Shape, Opens, Law, Ahead}
use Rattle.sa_parser.proofs.Matches.{matches, matches_part, matches-known, matches-append}
use Rattle.sa_parser.proofs.Opens.{Opens-or_first, Opens-or_second}
use Rattle.sa_parser.proofs.Starts.{starts-or_neither}
use Rattle.sa_parser.proofs.LooksAhead.{LooksAhead, Passes, Fails, Begins}
use Rattle.sa_parser.proofs.laws.Either.{either-first, either-second, either-cases, either-sound, either-widens, either-begun, either-some, either-ahead_found, either-ahead_faulty}

-- The set is what can't follow beside what can't follow the parts.
abbrev pub either_ahead_shape : Heads → Shape → Shape → Shape
either_ahead_shape further first second = record {
  opens = or first.opens second.opens;
  blank = first.blank || second.blank;
  goes_on = or further (or first.goes_on second.goes_on);
}

begins-at : {A : Type 0} {tests : List (TokenKind → Bool)} {Is : Form A} → Begins tests Is → (before : List Token) (token : Token)
    → matches_part tests (before ++ token ∷ []) ≡ true → (after : List Token) × (value : A) × Is (before ++ token ∷ after) value
begins-at begins [] token part = begins.is token [] part
begins-at {A} {Is} begins (first ∷ before) token part =
    let (after, value, is) = begins.is first (before ++ token ∷ []) part in
    let has_value : List Token → Type 0 = λ tokens. Is (first ∷ tokens) value in
    (after, value, subst has_value (append_assoc before (token ∷ []) after) is)

module _ {A : Type 0} {First AlsoFirst Second AlsoSecond : Form A} {one two : Shape} {first second : Reader A}
    (law : Law First AlsoFirst one first) (other : Law Second AlsoSecond two second) where
  ahead-opens : (tokens : List Token) (value : A) → Either First Second tokens value → Opens (one.blank || two.blank) (or one.opens two.opens) tokens
  unfolding Either
  ahead-opens tokens value (inl is) = Opens-or_first one.blank two.blank one.opens two.opens tokens (law.opens tokens value is)
  ahead-opens tokens value (inr is) = Opens-or_second one.blank two.blank one.opens two.opens tokens (other.opens tokens value is)

module _ {A : Type 0} {First AlsoFirst Second AlsoSecond : Form A} {one two : Shape} {tests : List (TokenKind → Bool)} {further : Heads}
    {looks : List Token → Bool} {first second : Reader A} (look : LooksAhead tests looks)
    (law : Law First AlsoFirst one first) (other : Law Second AlsoSecond two second) where
  ahead-complete : Passes tests First → Fails tests further Second → (before rest : List Token) (value : A) → Either First Second before value
      → starts (either_ahead_shape further one two).goes_on rest ≡ false → either looks first second (before ++ rest) ≡ Ok (value, rest)
  unfolding Either
  ahead-complete passes fails before rest value (inl is) quiet =
      let (_, behind) = starts-or_neither further (or one.goes_on two.goes_on) rest quiet in
      either-first looks first second (before ++ rest) (look.is (before ++ rest) ∙ matches-append tests before rest (passes.is before value is))
      ∙ law.complete before rest value is (starts-or_neither one.goes_on two.goes_on rest behind).0
  ahead-complete passes fails before rest value (inr is) quiet =
      let (near, behind) = starts-or_neither further (or one.goes_on two.goes_on) rest quiet in
      either-second looks first second (before ++ rest) (look.is (before ++ rest) ∙ fails.is before rest value is near)
      ∙ other.complete before rest value is (starts-or_neither one.goes_on two.goes_on rest behind).1

  pub either_ahead-Law : Passes tests First → Fails tests further Second
      → Law (Either First Second) (Either AlsoFirst AlsoSecond) (either_ahead_shape further one two) (either looks first second)
  either_ahead-Law passes fails = record {
    sound = either-sound looks law other;
    complete = ahead-complete passes fails;
    opens = ahead-opens law other;
    widens = either-widens law other;
    begun = either-begun looks law other;
    some = either-some law other;
  }

-- Where a look may see past a token, tokens up to that one begin both forms, so no reader stops or fails there.
module _ {A : Type 0} {First AlsoFirst Second AlsoSecond : Form A} {one two : Shape} {tests : List (TokenKind → Bool)}
    {looks : List Token → Bool} {first second : Reader A} (look : LooksAhead tests looks)
    (law : Law First AlsoFirst one first) (other : Law Second AlsoSecond two second)
    (begins : Begins tests First) (also_begins : Begins tests Second) (ahead : Ahead first) (also : Ahead second) where
  same-look : (before : List Token) (token : Token) (behind after : List Token)
      → matches tests (before ++ token ∷ behind) ≡ matches tests (before ++ token ∷ after)
      → looks (before ++ token ∷ behind) ≡ looks (before ++ token ∷ after)
  same-look before token behind after same = look.is (before ++ token ∷ behind) ∙ same ∙ sym (look.is (before ++ token ∷ after))

  none-found : (before : List Token) (token : Token) (behind : List Token) (value : A) → matches_part tests (before ++ token ∷ []) ≡ true
      → either looks first second (before ++ token ∷ behind) ≡ Ok (value, token ∷ behind) → ⊥
  none-found before token behind value part e =
      elim (either-cases looks first second (before ++ token ∷ behind) (Ok (value, token ∷ behind)) e) [
        | inl found ↦
            let (after, whole, is) = begins-at begins before token part in
            found-alone law ahead before token behind after value whole found.1 is
        | inr found ↦
            let (after, whole, is) = begins-at also_begins before token part in
            found-alone other also before token behind after value whole found.1 is
      ]

  none-faulty : (before : List Token) (token : Token) (behind : List Token) → matches_part tests (before ++ token ∷ []) ≡ true
      → either looks first second (before ++ token ∷ behind) ≡ Err (suc (length behind)) → ⊥
  none-faulty before token behind part e =
      elim (either-cases looks first second (before ++ token ∷ behind) (Err (suc (length behind))) e) [
        | inl found ↦
            let (after, whole, is) = begins-at begins before token part in
            faulty-alone law ahead before token behind after whole found.1 is
        | inr found ↦
            let (after, whole, is) = begins-at also_begins before token part in
            faulty-alone other also before token behind after whole found.1 is
      ]

  pub either_ahead-Ahead : Ahead (either looks first second)
  either_ahead-Ahead = record {
    found = λ before token behind after value e.
        elim (matches-known tests before token behind after) [
          | inl same ↦ either-ahead_found looks ahead also before token behind after value (same-look before token behind after same) e
          | inr part ↦ absurd (none-found before token behind value part e)
        ];
    faulty = λ before token behind after e.
        elim (matches-known tests before token behind after) [
          | inl same ↦ either-ahead_faulty looks ahead also before token behind after (same-look before token behind after same) e
          | inr part ↦ absurd (none-faulty before token behind part e)
        ];
  }
