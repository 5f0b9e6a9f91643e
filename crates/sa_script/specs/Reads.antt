-- How a piece of a script is read: its tokens at their places in the script, their tree, and the
-- faults of both.
use Rattle.std.specs.Prelude.{◌≡◌, ℕ, ◌+◌, ◌⊎◌, List, Option, Some, None, Ok, Err}
use Rattle.sa_lexer.specs.declared.fault.LexKind.{LexKind}
use Rattle.sa_lexer.specs.declared.fault.LexKind.TheVariants as lex
use Rattle.sa_lexer.specs.declared.token.Token.{Token}
use Rattle.sa_lexer.specs.Faulty.{IsFaulty}
use Rattle.sa_lexer.specs.Grammar.{AreTokens}
use Rattle.sa_parser.specs.declared.answer.ParseFault.{ParseFault}
use Rattle.sa_parser.specs.declared.answer.ParseFault.TheVariants as parse
use Rattle.sa_parser.specs.Form.{Form}
use Rattle.sa_parser.specs.Parse.{IsAnswer}
use Rattle.sa_script.specs.declared.fault.ScriptKind.{ScriptKind}
use Rattle.sa_script.specs.declared.fault.ScriptKind.TheVariants as script
use Rattle.sa_script.specs.Fault.{Fault, fault_at}
use Rattle.sa_script.specs.Piece.{Piece}

-- how a fault of the lexer is called
abbrev pub lex_kind : LexKind → ScriptKind
lex_kind lex.BadByte = script.BadByte
lex_kind lex.OpenText = script.OpenText
lex_kind lex.OpenComment = script.OpenComment
lex_kind lex.NumberTooLong = script.NumberTooLong
lex_kind lex.TextTooLong = script.TextTooLong

-- a fault of the grammar, as a fault of the script; want of memory is none
abbrev pub parse_fault : ParseFault → Option Fault
parse_fault (parse.Syntax place) = Some (fault_at script.Syntax place)
parse_fault (parse.NotSupported place) = Some (fault_at script.NotSupported place)
parse_fault (parse.TooDeep place) = Some (fault_at script.TooDeep place)
parse_fault parse.OutOfMemory = None

-- A piece whose tokens are in a form has this tree.
pub record ReadsAs {A : Type 0} (Is : Form A) (piece : Piece) (tree : A) : Type 0 where
  pub tokens : List Token
  pub are : AreTokens piece.place piece.text tokens
  pub is : IsAnswer Is tokens (Ok tree)

-- The lexer finds this fault in the piece.
pub record HasLexFault (piece : Piece) (fault : Fault) : Type 0 where
  pub kind : LexKind
  pub place : ℕ
  pub found : IsFaulty piece.text kind place
  pub fault_is : fault ≡ fault_at (lex_kind kind) (piece.place + place)

-- Its tokens aren't in the form, and this is their first fault.
pub record HasParseFault {A : Type 0} (Is : Form A) (piece : Piece) (fault : Fault) : Type 0 where
  pub tokens : List Token
  pub are : AreTokens piece.place piece.text tokens
  pub told : ParseFault
  pub is : IsAnswer Is tokens (Err told)
  pub fault_is : parse_fault told ≡ Some fault

-- A piece that can't be read in the form has this fault first: of the lexer, or of the grammar.
abbrev pub CantRead : {A : Type 0} → Form A → Piece → Fault → Type 0
CantRead Is piece fault = HasLexFault piece fault ⊎ HasParseFault Is piece fault
