-- The pieces of a script, and which kind each is.
use Rattle.std.specs.Prelude.{◌≡◌, ℕ, ◌+◌, Bool, true, false, List, [], ◌∷◌, ◌++◌, length, drop, codes, if◌then◌else◌}
use Rattle.std.specs.List.{list_any, slice_range}
use Rattle.std.specs.Str.{str_eq_ignore_ascii_case}
use Rattle.sa_lexer.specs.declared.first.FirstToken.{FirstToken}
use Rattle.sa_lexer.specs.declared.first.FirstToken.TheVariants.{Nothing, Word, Other}
use Rattle.sa_lexer.specs.Byte.{is_space}
use Rattle.sa_lexer.specs.Piece.{EndsPiece}
use Rattle.sa_script.specs.declared.kind.Kind.{Kind}
use Rattle.sa_script.specs.declared.kind.Kind.TheVariants.{Blank, Directive, Setup, Statement, Late}
use Rattle.sa_script.specs.declared.said.Stage.{Stage}
use Rattle.sa_script.specs.declared.said.Stage.TheVariants.{SetUp, InSession, Scheduled}

-- A piece of the script, from a place on. A `;` ends it, or it is the last one.
pub record Piece : Type 0 where
  pub place : ℕ
  pub text : List ℕ
  pub closed : Bool

-- what stands between a piece and what is behind it
abbrev pub closing : Piece → List ℕ
closing piece = if piece.closed then 59 ∷ [] else []

-- the place directly behind a piece and its `;`
abbrev pub place_behind : Piece → ℕ
place_behind piece = piece.place + length piece.text + length (closing piece)

-- The script has this piece at its place, and this behind it.
pub record IsPiece (script : List ℕ) (piece : Piece) (behind : List ℕ) : Type 0 where
  pub source : drop piece.place script ≡ piece.text ++ closing piece ++ behind
  pub ends : EndsPiece piece.place script
      (record { end = piece.place + length piece.text; closed = piece.closed })
  pub last : piece.closed ≡ false → behind ≡ []

-- whether a word is one of these, in capitals or not
abbrev pub is_one_of : List (List ℕ) → List ℕ → Bool
is_one_of words word = list_any (λ other. str_eq_ignore_ascii_case other word) words

-- the words that begin a session or the schedule, wherever they stand first in a piece
abbrev pub ordering_words : List (List ℕ)
ordering_words = codes "SESSION" ∷ codes "SCHEDULE" ∷ []

-- the words that begin a directive while tables are set up
abbrev pub directive_words : List (List ℕ)
directive_words = codes "QUANTUM" ∷ codes "TURNS" ∷ codes "LOAD" ∷ ordering_words

-- By the first token of a piece: SESSION and SCHEDULE, unquoted, are what they say wherever they
-- may stand.
abbrev pub kind_at : Stage → Piece → FirstToken → Kind
kind_at stage piece Nothing = Blank
kind_at SetUp piece (Word start end) =
    if is_one_of directive_words (slice_range piece.text start end) then Directive else Setup
kind_at SetUp piece (Other start) = Setup
kind_at InSession piece (Word start end) =
    if is_one_of ordering_words (slice_range piece.text start end) then Directive else Statement
kind_at InSession piece (Other start) = Statement
kind_at Scheduled piece (Word start end) = Late (piece.place + start)
kind_at Scheduled piece (Other start) = Late (piece.place + start)

-- the text without the white space at its front
abbrev pub trimmed_front : List ℕ → List ℕ
trimmed_front [] = []
trimmed_front (byte ∷ bytes) = if is_space byte then trimmed_front bytes else byte ∷ bytes

-- how many bytes of white space stand at the front
abbrev pub front_space : List ℕ → ℕ
front_space [] = 0
front_space (byte ∷ bytes) = if is_space byte then front_space bytes + 1 else 0

-- the text without the white space at its end
abbrev pub trimmed_end : List ℕ → List ℕ
trimmed_end [] = []
trimmed_end (byte ∷ bytes) = if list_any (λ other. if is_space other then false else true)
    (byte ∷ bytes) then byte ∷ trimmed_end bytes else []

-- a statement's source text: from the first to the last byte of its piece that isn't white space
abbrev pub source_of : List ℕ → List ℕ
source_of text = trimmed_end (trimmed_front text)
