-- What a piece of a script says after those before it, and its first fault.
use Rattle.std.specs.Prelude.{◌≡◌, ℕ, ◌+◌, ◌⊎◌, true, not, nat_lt, List, [], ◌∷◌, length, Option, Some, None, if◌then◌else◌}
use Rattle.sa_lexer.specs.declared.fault.LexKind.{LexKind}
use Rattle.sa_lexer.specs.declared.first.FirstToken.{FirstToken}
use Rattle.sa_lexer.specs.Faulty.{IsOpenPiece}
use Rattle.sa_lexer.specs.First.{IsFirst}
use Rattle.sa_ast.specs.declared.directive.Directive as tree
use Rattle.sa_ast.specs.declared.statement.Statement as statement
use Rattle.sa_ast.specs.declared.statement.Statement.TheVariants.{Create, Insert}
use Rattle.sa_parser.specs.Parse.{IsSetup, IsDirective}
use Rattle.sa_table.specs.Table.{Table}
use Rattle.sa_script.specs.declared.fault.ScriptKind.TheVariants as script
use Rattle.sa_script.specs.declared.kind.Kind.{Kind}
use Rattle.sa_script.specs.declared.kind.Kind.TheVariants.{Blank, Directive, Setup, Statement, Late}
use Rattle.sa_script.specs.declared.said.Said.{Said}
use Rattle.sa_script.specs.Create.{Creates, CantCreate}
use Rattle.sa_script.specs.Direct.{Directs, CantDirect}
use Rattle.sa_script.specs.Fault.{Fault, fault_at}
use Rattle.sa_script.specs.Insert.{Inserts, CantInsert}
use Rattle.sa_script.specs.Piece.{Piece, IsPiece, kind_at, source_of, front_space, place_behind}
use Rattle.sa_script.specs.Reads.{ReadsAs, CantRead, lex_kind}
use Rattle.sa_script.specs.Said.{with_statement, last_session}

-- A statement that sets tables up makes these tables of those.
abbrev pub SetsUp : List Table → statement.Statement → List Table → Type 0
SetsUp tables (Create tree) after = Creates tables tree after
SetsUp tables (Insert tree) after = Inserts tables tree after
SetsUp tables tree after = ⊥

-- A statement that sets tables up and is read has this fault.
abbrev pub CantSetUp : List Table → statement.Statement → Fault → Type 0
CantSetUp tables (Create tree) fault = CantCreate tables tree fault
CantSetUp tables (Insert tree) fault = CantInsert tables tree fault
CantSetUp tables tree fault = ⊥

-- whether one more statement may be put to a session, and whether it is short enough
abbrev pub statement_fault : List (List (List ℕ)) → Piece → Option Fault
statement_fault sessions piece =
    if not (nat_lt (length (last_session sessions)) 256)
    then Some (fault_at script.TooManyStatements (piece.place + front_space piece.text))
    else (if nat_lt 65536 (length (source_of piece.text))
    then Some (fault_at script.StatementTooLong (piece.place + front_space piece.text))
    else None)

-- A piece of this kind says this; the next one begins so many bytes behind its `;`.
abbrev pub SaysAs : Kind → Said → Piece → List ℕ → Said → (skipped : ℕ) → Type 0
SaysAs Blank said piece behind next skipped = (next ≡ said) × (skipped ≡ 0)
SaysAs Directive said piece behind next skipped =
    (tree : tree.Directive) × ReadsAs IsDirective piece tree
    × Directs said piece tree behind next skipped
SaysAs Setup said piece behind next skipped =
    (tree : statement.Statement) × (after : List Table) × ReadsAs IsSetup piece tree
    × SetsUp said.tables tree after
    × (next ≡ record said { tables = after }) × (skipped ≡ 0)
SaysAs Statement said piece behind next skipped =
    (statement_fault said.sessions piece ≡ None)
    × (next ≡ record said { sessions = with_statement said.sessions (source_of piece.text) })
    × (skipped ≡ 0)
SaysAs (Late place) said piece behind next skipped = ⊥

-- A piece of this kind has this fault first: of its limits, of the lexer, of the grammar, or of
-- what it says.
abbrev pub FailsAs : Kind → Said → Piece → List ℕ → Fault → Type 0
FailsAs Blank said piece behind fault = ⊥
FailsAs Directive said piece behind fault =
    CantRead IsDirective piece fault
    ⊎ ((tree : tree.Directive) × ReadsAs IsDirective piece tree
    × CantDirect said piece tree behind fault)
FailsAs Setup said piece behind fault =
    CantRead IsSetup piece fault
    ⊎ ((tree : statement.Statement) × ReadsAs IsSetup piece tree
    × CantSetUp said.tables tree fault)
FailsAs Statement said piece behind fault = statement_fault said.sessions piece ≡ Some fault
FailsAs (Late place) said piece behind fault = fault ≡ fault_at script.AfterSchedule place

-- After what was said, a piece stands from this place on, and says this; what follows it stands
-- from another place on.
pub record Says (text : List ℕ) (said : Said) (from : ℕ) (piece : Piece) (next : Said)
    (to : ℕ) : Type 0 where
  pub place : piece.place ≡ from
  pub behind : List ℕ
  pub is : IsPiece text piece behind
  pub first : FirstToken
  pub first_is : IsFirst piece.text first
  pub skipped : ℕ
  pub says : SaysAs (kind_at said.stage piece first) said piece behind next skipped
  pub to_is : to ≡ place_behind piece + skipped

-- After what was said, a piece stands from this place on, and has this fault first.
pub record Fails (text : List ℕ) (said : Said) (from : ℕ) (fault : Fault) : Type 0 where
  pub piece : Piece
  pub behind : List ℕ
  pub place : piece.place ≡ from
  pub is : IsPiece text piece behind
  pub first : FirstToken
  pub first_is : IsFirst piece.text first
  pub fails : FailsAs (kind_at said.stage piece first) said piece behind fault

-- What stands from this place on is a piece that is left open.
pub record IsLeftOpen (text : List ℕ) (from : ℕ) (fault : Fault) : Type 0 where
  pub kind : LexKind
  pub place : ℕ
  pub unclosed : IsOpenPiece from text kind place
  pub fault_is : fault ≡ fault_at (lex_kind kind) place

-- What stands from this place on has this fault in its first piece: it is left open, or it fails.
abbrev pub FailsAt : List ℕ → Said → ℕ → Fault → Type 0
FailsAt text said from fault = IsLeftOpen text from fault ⊎ Fails text said from fault

-- These pieces, each ended by its `;`, lead from one place of the text to another, and say this.
abbrev pub LeadTo : List ℕ → Said → ℕ → List Piece → Said → ℕ → Type 0
LeadTo text said from [] last to = (last ≡ said) × (to ≡ from)
LeadTo text said from (piece ∷ pieces) last to =
    (next : Said) × (at : ℕ) × (piece.closed ≡ true) × Says text said from piece next at
    × LeadTo text next at pieces last to
