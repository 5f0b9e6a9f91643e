-- Which script a text is, or which fault it has first.
use Rattle.std.specs.Prelude.{◌≡◌, ℕ, ◌<◌, ◌≤◌, ◌⊎◌, ⊤, false, List, length, Result, Ok, Err}
use Rattle.std.specs.Str.{IsUtf8, IsValidUpTo}
use Rattle.sa_script.specs.declared.fault.ScriptKind.TheVariants as script
use Rattle.sa_script.specs.declared.fault.ScriptFault.{ScriptFault}
use Rattle.sa_script.specs.declared.fault.ScriptFault.TheVariants.{Bad, OutOfMemory}
use Rattle.sa_script.specs.declared.said.Said.{Said}
use Rattle.sa_script.specs.declared.script.Script.{Script}
use Rattle.sa_script.specs.Fault.{Fault, fault_at}
use Rattle.sa_script.specs.Piece.{Piece}
use Rattle.sa_script.specs.Said.{nothing_said}
use Rattle.sa_script.specs.Says.{Says, LeadTo, FailsAt}

-- the most bytes of a script: 16 MiB
abbrev pub most_bytes : ℕ
most_bytes = 16777216

-- the script that was said
abbrev pub script_said : Said → Script
script_said said =
    record {
      tables = said.tables;
      sessions = said.sessions;
      quantum = said.quantum;
      turns = said.turns;
      schedule = said.schedule;
    }

-- A text is this script: its pieces say it, the last of which no `;` ends.
pub record IsScript (text : List ℕ) (script : Script) : Type 0 where
  pub size : length text ≤ most_bytes
  pub utf8 : IsUtf8 text
  pub pieces : List Piece
  pub said : Said
  pub from : ℕ
  pub lead : LeadTo text nothing_said 0 pieces said from
  pub piece : Piece
  pub unclosed : piece.closed ≡ false
  pub next : Said
  pub to : ℕ
  pub last : Says text said from piece next to
  pub script_is : script ≡ script_said next

-- A text has too many bytes.
pub record IsTooLong (text : List ℕ) (fault : Fault) : Type 0 where
  pub size : most_bytes < length text
  pub fault_is : fault ≡ fault_at script.TooLong most_bytes

-- A text of the right size has a byte that is no UTF-8, and this is the first.
pub record IsNotUtf8 (text : List ℕ) (fault : Fault) : Type 0 where
  pub size : length text ≤ most_bytes
  pub utf8 : IsUtf8 text → ⊥
  pub place : ℕ
  pub valid : IsValidUpTo text place
  pub fault_is : fault ≡ fault_at script.NotUtf8 place

-- A text of the right size in UTF-8 has this fault: its first pieces say something, and the next
-- one fails.
pub record HasFaultyPiece (text : List ℕ) (fault : Fault) : Type 0 where
  pub size : length text ≤ most_bytes
  pub utf8 : IsUtf8 text
  pub pieces : List Piece
  pub said : Said
  pub from : ℕ
  pub lead : LeadTo text nothing_said 0 pieces said from
  pub fails : FailsAt text said from fault

-- The first fault of a text: its size, a byte that is no UTF-8, or one of its pieces.
abbrev pub IsFault : List ℕ → Fault → Type 0
IsFault text fault = IsTooLong text fault ⊎ (IsNotUtf8 text fault ⊎ HasFaultyPiece text fault)

-- The answer to a text: the script that it is, or its first fault, unless memory ran out.
abbrev pub IsScriptOf : List ℕ → Result Script ScriptFault → Type 0
IsScriptOf text (Ok script) = IsScript text script
IsScriptOf text (Err (Bad kind place line)) =
    IsFault text (record { kind = kind; place = place; line = line })
IsScriptOf text (Err OutOfMemory) = ⊤
