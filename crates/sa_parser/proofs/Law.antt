-- When a reader agrees with a form, and what of one reader stays with another.
use Rattle.std.proofs.Common.{◌≡◌, ◌<◌, ◌+◌, ◌⊎◌, ℕ, suc, Bool, true, false, List, [], ◌∷◌, ◌++◌, length, Ok, Err}
use Rattle.sa_lexer.specs.declared.token.Token.{Token}
use Rattle.sa_parser.specs.Form.{Form}
use Rattle.sa_parser.specs.inner.Reading.{Reader}
use Rattle.sa_parser.proofs.Heads.{Heads, starts}

-- what the tokens of a form begin with, whether they can be none, and what can't stand behind them
pub record Shape : Type 0 where
  pub opens : Heads
  pub blank : Bool
  pub goes_on : Heads

abbrev pub Opens : Bool → Heads → List Token → Type 0
Opens true heads tokens = (tokens ≡ []) ⊎ (starts heads tokens ≡ true)
Opens false heads tokens = starts heads tokens ≡ true

-- A reader agrees with a form. Where it can't go on, tokens with which the wide form begins were read.
pub record Law {A : Type 0} (Is Wide : Form A) (shape : Shape) (read : Reader A) : Type 0 where
  pub sound : (tokens : List Token) (value : A) (rest : List Token) → read tokens ≡ Ok (value, rest)
      → (before : List Token) × (tokens ≡ before ++ rest) × Is before value
  pub complete : (before rest : List Token) (value : A) → Is before value → starts shape.goes_on rest ≡ false → read (before ++ rest) ≡ Ok (value, rest)
  pub opens : (tokens : List Token) (value : A) → Is tokens value → Opens shape.blank shape.opens tokens
  pub widens : (tokens : List Token) (value : A) → Is tokens value → Wide tokens value
  pub begun : (tokens : List Token) (left : ℕ) → read tokens ≡ Err left
      → (before : List Token) × (behind : List Token) × (after : List Token) × (value : A) × (tokens ≡ before ++ behind) × (left ≡ length behind) × Wide (before ++ after) value
  pub some : (tokens : List Token) × (value : A) × Wide tokens value

-- A reader looks one token ahead at most: what it answers where a token is left stays the same whatever stands behind that token.
pub record Ahead {A : Type 0} (read : Reader A) : Type 0 where
  pub found : (before : List Token) (token : Token) (behind other : List Token) (value : A)
      → read (before ++ token ∷ behind) ≡ Ok (value, token ∷ behind) → read (before ++ token ∷ other) ≡ Ok (value, token ∷ other)
  pub faulty : (before : List Token) (token : Token) (behind other : List Token)
      → read (before ++ token ∷ behind) ≡ Err (suc (length behind)) → read (before ++ token ∷ other) ≡ Err (suc (length other))

-- What a reader finds, a deeper one finds too; and a fault with fewer than so many tokens before it is a fault for both.
pub record Deeper {A : Type 0} (levels : ℕ) (read deeper : Reader A) : Type 0 where
  pub found : (tokens : List Token) (value : A) (rest : List Token) → read tokens ≡ Ok (value, rest) → deeper tokens ≡ Ok (value, rest)
  pub faulty : (tokens : List Token) (left : ℕ) → read tokens ≡ Err left → length tokens < levels + left → deeper tokens ≡ Err left
