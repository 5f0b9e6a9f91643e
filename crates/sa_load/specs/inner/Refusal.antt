-- What a record that is no row is refused with.
use Rattle.std.specs.Prelude.{◌≡◌, ℕ, List, [], ⊤, Some, Result, Ok, Err, slice_get}
use Rattle.sa_table.specs.declared.fault.RowFault.{RowFault}
use Rattle.sa_table.specs.declared.fault.RowFault.TheVariants as row
use Rattle.sa_load.specs.declared.fault.LoadCause.{LoadCause}
use Rattle.sa_load.specs.declared.fault.LoadCause.TheVariants as causes
use Rattle.sa_load.specs.declared.fault.LoadFault.{LoadFault}
use Rattle.sa_load.specs.declared.fault.LoadFault.TheVariants as faults
use Rattle.sa_load.specs.declared.refusal.Refusal.{Refusal}
use Rattle.sa_load.specs.declared.refusal.Refusal.TheVariants.{Cause, OutOfMemory}

-- the fault of the record with this number
abbrev pub fault_at : ℕ → Refusal → LoadFault
fault_at number (Cause cause) = faults.Bad number cause
fault_at number OutOfMemory = faults.OutOfMemory

abbrev pub refusal_of : RowFault → Refusal
refusal_of row.RowFull = Cause causes.RowFull
refusal_of row.Arity = Cause causes.Arity
refusal_of (row.NullNotAllowed column) = Cause (causes.NullNotAllowed column)
refusal_of (row.TypeMismatch column) = Cause (causes.TypeMismatch column)
refusal_of (row.OutOfRange column) = Cause (causes.OutOfRange column)
refusal_of (row.TooLong column) = Cause (causes.TooLong column)
refusal_of (row.DuplicateKey number) = Cause (causes.DuplicateKey number)
refusal_of row.OutOfMemory = OutOfMemory

-- a refusal tells the first of these causes, unless memory ran out
abbrev pub TellsFirst : List LoadCause → Refusal → Type 0
TellsFirst list (Cause cause) = slice_get list 0 ≡ Some cause
TellsFirst list OutOfMemory = ⊤

-- A call gives this value where there is no cause, and is refused by the first one.
abbrev pub Gives : {A : Type 0} → List LoadCause → A → Result A Refusal → Type 0
Gives list value (Ok given) = (list ≡ []) × (given ≡ value)
Gives list value (Err refusal) = TellsFirst list refusal
