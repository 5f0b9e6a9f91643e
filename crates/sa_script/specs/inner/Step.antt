-- What one piece says or how it fails, whatever its kind.
use Rattle.std.specs.Prelude.{ℕ, ◌⊎◌, List}
use Rattle.sa_lexer.specs.declared.first.FirstToken.{FirstToken}
use Rattle.sa_lexer.specs.First.{IsFirst}
use Rattle.sa_ast.specs.declared.statement.Statement.{Statement}
use Rattle.sa_parser.specs.Parse.{IsSetup}
use Rattle.sa_table.specs.Table.{Table}
use Rattle.sa_script.specs.declared.said.Said.{Said}
use Rattle.sa_script.specs.Fault.{Fault}
use Rattle.sa_script.specs.Piece.{Piece, kind_at}
use Rattle.sa_script.specs.Reads.{ReadsAs, CantRead}
use Rattle.sa_script.specs.Said.{nothing_said}
use Rattle.sa_script.specs.Says.{SaysAs, FailsAs, SetsUp, CantSetUp, LeadTo}

-- A piece says this; the next one begins so many bytes behind its `;`.
abbrev pub SaysThis : Said → Piece → List ℕ → Said → (skipped : ℕ) → Type 0
SaysThis said piece behind next skipped =
    (first : FirstToken) × IsFirst piece.text first
    × SaysAs (kind_at said.stage piece first) said piece behind next skipped

-- A piece has this fault first.
abbrev pub FailsWith : Said → Piece → List ℕ → Fault → Type 0
FailsWith said piece behind fault =
    (first : FirstToken) × IsFirst piece.text first
    × FailsAs (kind_at said.stage piece first) said piece behind fault

-- A piece is read as a statement that makes these tables of those.
abbrev pub SetsUpAs : List Table → Piece → List Table → Type 0
SetsUpAs tables piece after = (tree : Statement) × ReadsAs IsSetup piece tree × SetsUp tables tree after

-- A piece isn't read as a statement that sets tables up, or has a fault as one.
abbrev pub CantSetUpAs : List Table → Piece → Fault → Type 0
CantSetUpAs tables piece fault = CantRead IsSetup piece fault
    ⊎ ((tree : Statement) × ReadsAs IsSetup piece tree × CantSetUp tables tree fault)

-- Pieces from the beginning of the text on lead to this place, and say this.
abbrev pub LeadsTo : (text : List ℕ) → Said → (to : ℕ) → Type 0
LeadsTo text said to = (pieces : List Piece) × LeadTo text nothing_said 0 pieces said to
