-- Which fault is told of a SELECT that has no query.
use Rattle.std.specs.Prelude.{◌≡◌, ⊤, List, Some}
use Rattle.sa_resolve.specs.declared.fault.ResolveFault.{ResolveFault}
use Rattle.sa_resolve.specs.declared.fault.ResolveFault.TheVariants.{Bad, OutOfMemory}
use Rattle.sa_resolve.specs.Fault.{Fault, fault_at, least}

-- The least of all faults is told; of want of memory nothing is said.
abbrev pub IsToldOf : List Fault → ResolveFault → Type 0
IsToldOf faults (Bad kind place) = least faults ≡ Some (fault_at kind place)
IsToldOf faults OutOfMemory = ⊤
