-- What a text begins with, as the parts of the search for its first token tell it.
use Rattle.std.specs.Prelude.{ℕ, ◌≡◌, ◌<◌, ◌≤◌, List, ◌++◌, length, take, drop, Option, Some, None}
use Rattle.std.specs.Str.{IsCharBoundary}
use Rattle.sa_lexer.specs.Grammar.{IsBlank}
use Rattle.sa_lexer.specs.First.{IsWordBefore}

-- A blank of so many bytes is the front.
pub record IsFrontBlank (bytes : List ℕ) (len : ℕ) : Type 0 where
  pub some : 0 < len
  pub within : len ≤ length bytes
  pub is : IsBlank (take len bytes) (drop len bytes)
  pub cut : IsCharBoundary bytes len

abbrev pub BeginsBlank : List ℕ → Option ℕ → Type 0
BeginsBlank bytes (Some len) = IsFrontBlank bytes len
BeginsBlank bytes None = (blank after : List ℕ) → bytes ≡ blank ++ after → IsBlank blank after → ⊥

-- A word of so many bytes is the front.
pub record IsFrontWord (bytes : List ℕ) (len : ℕ) : Type 0 where
  pub within : len ≤ length bytes
  pub is : IsWordBefore bytes (take len bytes) (drop len bytes)
  pub cut : IsCharBoundary bytes len

abbrev pub BeginsWord : List ℕ → Option ℕ → Type 0
BeginsWord bytes (Some len) = IsFrontWord bytes len
BeginsWord bytes None = (word after : List ℕ) → IsWordBefore bytes word after → ⊥
