-- Which of two faults is told, where there are any.
use Rattle.std.specs.Prelude.{ℕ, min, List, [], ◌∷◌, Option, Some, None, option_map}
use Rattle.sa_resolve.specs.declared.least.Fault.{Fault as Found}
use Rattle.sa_resolve.specs.Fault.{Fault, earlier}

abbrev pub fault_in : Found → Fault
fault_in one = record { kind = one.kind; place = one.place }

-- the fault that the code holds
abbrev pub fault_of : Option Found → Option Fault
fault_of found = option_map fault_in found

abbrev pub sooner : Option Fault → Option Fault → Option Fault
sooner None other = other
sooner (Some fault) other = earlier fault other

abbrev pub nearer : Option ℕ → Option ℕ → Option ℕ
nearer None other = other
nearer (Some place) None = Some place
nearer (Some place) (Some other) = Some (min place other)

-- the least of these places, if there is one
abbrev pub nearest : List ℕ → Option ℕ
nearest [] = None
nearest (place ∷ places) = nearer (Some place) (nearest places)
