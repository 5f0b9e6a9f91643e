-- What a directive of a script says, and its fault.
use Rattle.std.specs.Prelude.{◌≡◌, ℕ, ◌+◌, ◌<◌, Bool, true, false, not, ◌&&◌, ◌==◌, nat_lt, nat_le, List, [], ◌∷◌, ◌++◌, length, map, slice_get, Option, Some, None, if◌then◌else◌}
use Rattle.sa_ast.specs.declared.directive.Directive.{Directive}
use Rattle.sa_ast.specs.declared.directive.Directive.TheVariants.{Quantum, Turns, Load, Session, Schedule}
use Rattle.sa_ast.specs.declared.directive.NumberTree.{NumberTree}
use Rattle.sa_table.specs.Table.{Table}
use Rattle.sa_script.specs.declared.fault.ScriptKind.{ScriptKind}
use Rattle.sa_script.specs.declared.fault.ScriptKind.TheVariants as script
use Rattle.sa_script.specs.declared.said.Said.{Said}
use Rattle.sa_script.specs.declared.said.Stage.TheVariants.{InSession, Scheduled}
use Rattle.sa_script.specs.Fault.{Fault, fault_at}
use Rattle.sa_script.specs.Load.{Loads, CantLoad}
use Rattle.sa_script.specs.Piece.{Piece}

-- whether a number lies between two others
abbrev pub is_from_to : ℕ → ℕ → ℕ → Bool
is_from_to least most number = nat_le least number && nat_le number most

-- the fault of a session's number, after so many sessions
abbrev pub session_fault : ℕ → NumberTree → Option ScriptKind
session_fault sessions tree =
    if not (tree.number == sessions + 1) then Some script.SessionOrder
    else (if nat_lt 16 tree.number then Some script.TooManySessions else None)

-- the fault of a number of SCHEDULE, which has so many before it
abbrev pub schedule_fault : (sessions before : ℕ) → NumberTree → Option ScriptKind
schedule_fault sessions before tree =
    if not (is_from_to 1 sessions tree.number) then Some script.UnknownSession
    else (if nat_lt before 65536 then None else Some script.ScheduleTooLong)

-- No number of a SCHEDULE is faulty.
abbrev pub HasGoodNumbers : ℕ → List NumberTree → Type 0
HasGoodNumbers sessions trees = (index : ℕ) (tree : NumberTree) → slice_get trees index ≡ Some tree
    → schedule_fault sessions index tree ≡ None

-- the sessions that a SCHEDULE numbers
abbrev pub numbers_in : List NumberTree → List ℕ
numbers_in trees = map (λ (tree : NumberTree). tree.number) trees

-- A directive says this. The next piece begins so many bytes behind its `;`.
abbrev pub Directs : Said → Piece → Directive → List ℕ → Said → (skipped : ℕ) → Type 0
Directs said piece (Quantum tree) behind next skipped =
    (is_from_to 1 64 tree.number ≡ true) × (next ≡ record said { quantum = tree.number })
    × (skipped ≡ 0)
Directs said piece (Turns tree) behind next skipped =
    (is_from_to 1 1000000000 tree.number ≡ true) × (next ≡ record said { turns = tree.number })
    × (skipped ≡ 0)
Directs said piece (Load name count) behind next skipped =
    (after : List Table) × Loads said.tables piece name count behind after skipped
    × (next ≡ record said { tables = after })
Directs said piece (Session tree) behind next skipped =
    (session_fault (length said.sessions) tree ≡ None)
    × (next ≡ record said { stage = InSession; sessions = said.sessions ++ [] ∷ [] }) × (skipped ≡ 0)
Directs said piece (Schedule trees) behind next skipped =
    HasGoodNumbers (length said.sessions) trees
    × (next ≡ record said { stage = Scheduled; schedule = numbers_in trees }) × (skipped ≡ 0)

-- The first faulty number of a SCHEDULE.
pub record HasBadNumber (sessions : ℕ) (trees : List NumberTree) (fault : Fault) : Type 0 where
  pub index : ℕ
  pub tree : NumberTree
  pub kind : ScriptKind
  pub there : slice_get trees index ≡ Some tree
  pub bad : schedule_fault sessions index tree ≡ Some kind
  pub first : (earlier : ℕ) (other : NumberTree) → earlier < index
      → slice_get trees earlier ≡ Some other → schedule_fault sessions earlier other ≡ None
  pub fault_is : fault ≡ fault_at kind tree.place

-- A directive that is read has this fault.
abbrev pub CantDirect : Said → Piece → Directive → List ℕ → Fault → Type 0
CantDirect said piece (Quantum tree) behind fault =
    (is_from_to 1 64 tree.number ≡ false) × (fault ≡ fault_at script.BadNumber tree.place)
CantDirect said piece (Turns tree) behind fault =
    (is_from_to 1 1000000000 tree.number ≡ false) × (fault ≡ fault_at script.BadNumber tree.place)
CantDirect said piece (Load name count) behind fault =
    CantLoad said.tables piece name count behind fault
CantDirect said piece (Session tree) behind fault =
    (kind : ScriptKind) × (session_fault (length said.sessions) tree ≡ Some kind)
    × (fault ≡ fault_at kind tree.place)
CantDirect said piece (Schedule trees) behind fault = HasBadNumber (length said.sessions) trees fault
