-- Where a sign ends.
use Rattle.std.proofs.Common.{◌≡◌, ◌≢◌, ℕ, Bool, true, List, [], ◌∷◌, ◌++◌, length, refl, sym, subst, inl, inr, arith, lit<}
use Rattle.std.specs.Prelude.{codes, not, ◌||◌, nat_le, slice_index}
use Rattle.std.specs.List.{list_all}
use Rattle.std.proofs.lemmas.Bool.{or_cases, leb-true, not-true, ne_eqb, both_ways}
use Rattle.std.proofs.lemmas.List.Sums.{AllPass-from_list_all}
use Rattle.sa_lexer.specs.declared.sign.Sign.{Sign}
use Rattle.sa_lexer.specs.declared.sign.Sign.TheVariants.{NullSafeEqual, NotEqual, BangEqual, LessEqual, GreaterEqual, AndAnd, OrOr, LeftParen, RightParen, Comma, Dot, Star, Plus, Minus, Slash, Percent, Equal, Less, Greater}
use Rattle.sa_lexer.specs.declared.token.TokenKind.TheVariants as kinds
use Rattle.sa_lexer.specs.Opening.{begins_with, opening_of}
use Rattle.sa_lexer.specs.Sign.{spelling, signs}
use Rattle.sa_lexer.specs.Grammar.{Ends}

-- what all signs pass each of them passes
passed_by : (test : Sign → Bool) → list_all test signs ≡ true → (sign : Sign) → test sign ≡ true
passed_by test all NullSafeEqual = AllPass-from_list_all test signs all 0 Less (lit< tt)
passed_by test all NotEqual = AllPass-from_list_all test signs all 1 Less (lit< tt)
passed_by test all BangEqual = AllPass-from_list_all test signs all 2 Less (lit< tt)
passed_by test all LessEqual = AllPass-from_list_all test signs all 3 Less (lit< tt)
passed_by test all GreaterEqual = AllPass-from_list_all test signs all 4 Less (lit< tt)
passed_by test all AndAnd = AllPass-from_list_all test signs all 5 Less (lit< tt)
passed_by test all OrOr = AllPass-from_list_all test signs all 6 Less (lit< tt)
passed_by test all LeftParen = AllPass-from_list_all test signs all 7 Less (lit< tt)
passed_by test all RightParen = AllPass-from_list_all test signs all 8 Less (lit< tt)
passed_by test all Comma = AllPass-from_list_all test signs all 9 Less (lit< tt)
passed_by test all Dot = AllPass-from_list_all test signs all 10 Less (lit< tt)
passed_by test all Star = AllPass-from_list_all test signs all 11 Less (lit< tt)
passed_by test all Plus = AllPass-from_list_all test signs all 12 Less (lit< tt)
passed_by test all Minus = AllPass-from_list_all test signs all 13 Less (lit< tt)
passed_by test all Slash = AllPass-from_list_all test signs all 14 Less (lit< tt)
passed_by test all Percent = AllPass-from_list_all test signs all 15 Less (lit< tt)
passed_by test all Equal = AllPass-from_list_all test signs all 16 Less (lit< tt)
passed_by test all Less = AllPass-from_list_all test signs all 17 Less (lit< tt)
passed_by test all Greater = AllPass-from_list_all test signs all 18 Less (lit< tt)

-- whether a sign is no longer than this, or the bytes don't begin with it
abbrev is_no_longer : ℕ → List ℕ → Sign → Bool
is_no_longer len bytes sign = nat_le (length (spelling sign)) len || not (begins_with (spelling sign) bytes)

-- as a letter does, the bytes open neither a comment nor anything in quotes
abbrev OpensNothing : List ℕ → Type 0
OpensNothing bytes = opening_of bytes ≡ opening_of (codes "a")

ends_sign : (sign : Sign) (after : List ℕ) → OpensNothing (spelling sign ++ after)
    → list_all (is_no_longer (length (spelling sign)) (spelling sign ++ after)) signs ≡ true → Ends (spelling sign) after (kinds.Sign sign)
unfolding opening_of
ends_sign sign after plain all = (
  plain,
  λ other begins. elim (or_cases _ _ (passed_by (is_no_longer (length (spelling sign)) (spelling sign ++ after)) all other)) [
    | inl short ↦ leb-true (length (spelling other)) (length (spelling sign)) short
    | inr apart ↦ absurd (both_ways _ (not-true _ apart) begins)
  ],
)

pub left_paren_ends : (after : List ℕ) → Ends (spelling LeftParen) after (kinds.Sign LeftParen)
unfolding opening_of
left_paren_ends after = ends_sign LeftParen after refl refl

pub right_paren_ends : (after : List ℕ) → Ends (spelling RightParen) after (kinds.Sign RightParen)
unfolding opening_of
right_paren_ends after = ends_sign RightParen after refl refl

pub comma_ends : (after : List ℕ) → Ends (spelling Comma) after (kinds.Sign Comma)
unfolding opening_of
comma_ends after = ends_sign Comma after refl refl

pub dot_ends : (after : List ℕ) → Ends (spelling Dot) after (kinds.Sign Dot)
unfolding opening_of
dot_ends after = ends_sign Dot after refl refl

pub star_ends : (after : List ℕ) → Ends (spelling Star) after (kinds.Sign Star)
unfolding opening_of
star_ends after = ends_sign Star after refl refl

minus_opens : (after : List ℕ) → slice_index after 0 ≢ 45 → OpensNothing (45 ∷ after)
unfolding opening_of
minus_opens [] other = refl
minus_opens (byte ∷ after) other = rw (ne_eqb 45 byte (λ e. other (sym e))) refl

-- a second minus would begin a comment
pub minus_ends : (after : List ℕ) → slice_index after 0 ≢ 45 → Ends (spelling Minus) after (kinds.Sign Minus)
minus_ends after other = ends_sign Minus after (minus_opens after other) refl

-- each sign ends in front of a space
before_space : (sign : Sign) (rest : List ℕ) → Ends (spelling sign) (32 ∷ rest) (kinds.Sign sign)
unfolding opening_of
before_space NullSafeEqual rest = ends_sign NullSafeEqual (32 ∷ rest) refl refl
before_space NotEqual rest = ends_sign NotEqual (32 ∷ rest) refl refl
before_space BangEqual rest = ends_sign BangEqual (32 ∷ rest) refl refl
before_space LessEqual rest = ends_sign LessEqual (32 ∷ rest) refl refl
before_space GreaterEqual rest = ends_sign GreaterEqual (32 ∷ rest) refl refl
before_space AndAnd rest = ends_sign AndAnd (32 ∷ rest) refl refl
before_space OrOr rest = ends_sign OrOr (32 ∷ rest) refl refl
before_space LeftParen rest = ends_sign LeftParen (32 ∷ rest) refl refl
before_space RightParen rest = ends_sign RightParen (32 ∷ rest) refl refl
before_space Comma rest = ends_sign Comma (32 ∷ rest) refl refl
before_space Dot rest = ends_sign Dot (32 ∷ rest) refl refl
before_space Star rest = ends_sign Star (32 ∷ rest) refl refl
before_space Plus rest = ends_sign Plus (32 ∷ rest) refl refl
before_space Minus rest = ends_sign Minus (32 ∷ rest) refl refl
before_space Slash rest = ends_sign Slash (32 ∷ rest) refl refl
before_space Percent rest = ends_sign Percent (32 ∷ rest) refl refl
before_space Equal rest = ends_sign Equal (32 ∷ rest) refl refl
before_space Less rest = ends_sign Less (32 ∷ rest) refl refl
before_space Greater rest = ends_sign Greater (32 ∷ rest) refl refl

pub spaced_ends : (sign : Sign) (after : List ℕ) → slice_index after 0 ≡ 32 → Ends (spelling sign) after (kinds.Sign sign)
spaced_ends sign [] e = absurd (omega (arith, e))
spaced_ends sign (byte ∷ rest) e =
    let Before : ℕ → Type 0 = λ b. Ends (spelling sign) (b ∷ rest) (kinds.Sign sign) in
    subst Before (sym e) (before_space sign rest)
