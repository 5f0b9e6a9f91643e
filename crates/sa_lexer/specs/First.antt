-- What stands first in a text, behind blanks.
use Rattle.std.specs.Prelude.{ℕ, ◌≡◌, ◌+◌, ◌<◌, ⊤, List, [], ◌++◌, length}
use Rattle.std.specs.List.{concat}
use Rattle.std.specs.Str.{IsCharBoundary}
use Rattle.sa_lexer.specs.declared.first.FirstToken.{FirstToken}
use Rattle.sa_lexer.specs.declared.first.FirstToken.TheVariants.{Nothing, Word, Other}
use Rattle.sa_lexer.specs.declared.token.TokenKind.TheVariants as kinds
use Rattle.sa_lexer.specs.Spans.{Spells}
use Rattle.sa_lexer.specs.Grammar.{IsBlank, Ends, Follow}

-- Blanks alone stand up to a place, and the rest behind them.
pub record StandsBehindBlanks (text : List ℕ) (place : ℕ) (rest : List ℕ) : Type 0 where
  pub blanks : List (List ℕ)
  pub source : text ≡ concat blanks ++ rest
  pub before : Follow IsBlank blanks rest
  pub there : place ≡ length (concat blanks)

-- A word, and what follows where it ends.
pub record IsWordBefore (rest word after : List ℕ) : Type 0 where
  pub source : rest ≡ word ++ after
  pub spells : Spells word (kinds.Word word)
  pub ends : Ends word after (kinds.Word word)

-- Something stands here, which begins with neither a blank nor a word.
pub record IsOther (rest : List ℕ) : Type 0 where
  pub some : 0 < length rest
  pub blank : (blank after : List ℕ) → rest ≡ blank ++ after → IsBlank blank after → ⊥
  pub word : (word after : List ℕ) → IsWordBefore rest word after → ⊥

-- What the text begins with behind its blanks: nothing, a word up to its end, or anything else.
abbrev pub IsFirst : List ℕ → FirstToken → Type 0
IsFirst text Nothing = StandsBehindBlanks text (length text) []
IsFirst text (Word start end) =
    (rest word after : List ℕ) × StandsBehindBlanks text start rest × IsWordBefore rest word after
    × (end ≡ start + length word)
IsFirst text (Other start) = (rest : List ℕ) × StandsBehindBlanks text start rest × IsOther rest

-- The text may be cut at the places that are told.
abbrev pub MayBeCut : List ℕ → FirstToken → Type 0
MayBeCut text Nothing = ⊤
MayBeCut text (Word start end) = IsCharBoundary text start × IsCharBoundary text end
MayBeCut text (Other start) = IsCharBoundary text start
