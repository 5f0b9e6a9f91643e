-- A fault of a SELECT, and which of several is told.
use Rattle.std.specs.Prelude.{ℕ, Bool, ◌&&◌, ◌||◌, ◌==◌, nat_lt, nat_le, List, [], ◌∷◌, Option, Some, None, if◌then◌else◌}
use Rattle.sa_query.specs.declared.refusal.ResolveKind.{ResolveKind}
use Rattle.sa_query.specs.declared.refusal.ResolveKind.TheVariants.{UnknownTable, UnknownColumn, Ambiguous, DuplicateAlias, TypeMismatch, ExprRange, GroupRule, TooManyTables, TooManyItems, TooManyConstants}

pub record Fault : Type 0 where
  pub kind : ResolveKind
  -- a byte of the statement's text
  pub place : ℕ

abbrev pub fault_at : ResolveKind → (place : ℕ) → Fault
fault_at kind place = record { kind = kind; place = place }

-- the fault where it stands
abbrev pub told : Bool → ResolveKind → (place : ℕ) → List Fault
told stands kind place = if stands then fault_at kind place ∷ [] else []

-- where a kind stands in the list of kinds
abbrev pub rank : ResolveKind → ℕ
rank UnknownTable = 0
rank UnknownColumn = 1
rank Ambiguous = 2
rank DuplicateAlias = 3
rank TypeMismatch = 4
rank ExprRange = 5
rank GroupRule = 6
rank TooManyTables = 7
rank TooManyItems = 8
rank TooManyConstants = 9

-- whether a fault is told before another: the earlier place decides, and at one place the kind
abbrev pub comes_first : Fault → Fault → Bool
comes_first fault other =
    nat_lt fault.place other.place
    || (fault.place == other.place && nat_le (rank fault.kind) (rank other.kind))

abbrev pub earlier : Fault → Option Fault → Option Fault
earlier fault None = Some fault
earlier fault (Some other) = Some (if comes_first fault other then fault else other)

-- the least of these faults, if there is one
abbrev pub least : List Fault → Option Fault
least [] = None
least (fault ∷ faults) = earlier fault (least faults)
