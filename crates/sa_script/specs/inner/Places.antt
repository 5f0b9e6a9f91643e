-- Tokens and faults of a text that stands somewhere in another one, at their places there.
use Rattle.std.specs.Prelude.{ℕ, ◌+◌, ◌<◌, ⊤, List, All, None}
use Rattle.sa_lexer.specs.declared.fault.LexFault.{LexFault}
use Rattle.sa_lexer.specs.declared.fault.LexFault.TheVariants as lex
use Rattle.sa_lexer.specs.declared.token.Token.{Token}
use Rattle.sa_parser.specs.declared.answer.ParseFault.{ParseFault}
use Rattle.sa_parser.specs.declared.answer.ParseFault.TheVariants as parse
use Rattle.sa_script.specs.declared.fault.ScriptFault.{ScriptFault}
use Rattle.sa_script.specs.declared.fault.ScriptFault.TheVariants.{Bad, OutOfMemory}
use Rattle.sa_script.specs.declared.fault.ScriptKind.TheVariants as script
use Rattle.sa_script.specs.Reads.{lex_kind}

-- a token, so many bytes farther on
abbrev pub moved : ℕ → Token → Token
moved by token = record token { start = token.start + by; end = token.end + by }

-- Each token, so many bytes farther on, begins and ends below a bound.
abbrev pub EndBelow : (bound by : ℕ) → List Token → Type 0
EndBelow bound by tokens =
    All (λ (token : Token). (token.start + by < bound) × (token.end + by < bound)) tokens

-- A fault of the lexer stands, so many bytes farther on, below a bound.
abbrev pub StandsBelow : (bound by : ℕ) → LexFault → Type 0
StandsBelow bound by (lex.Bad kind place) = by + place < bound
StandsBelow bound by lex.OutOfMemory = ⊤

-- a fault of the lexer, so many bytes farther on
abbrev pub lex_fault : ℕ → LexFault → ScriptFault
lex_fault by (lex.Bad kind place) = Bad (lex_kind kind) (by + place) None
lex_fault by lex.OutOfMemory = OutOfMemory

-- a fault of the grammar
abbrev pub parse_fault : ParseFault → ScriptFault
parse_fault (parse.Syntax place) = Bad script.Syntax place None
parse_fault (parse.NotSupported place) = Bad script.NotSupported place None
parse_fault (parse.TooDeep place) = Bad script.TooDeep place None
parse_fault parse.OutOfMemory = OutOfMemory
