-- What an error of a reader of scripts tells: a fault of which something holds, unless memory ran out.
use Rattle.std.specs.Prelude.{⊤}
use Rattle.sa_script.specs.declared.fault.ScriptFault.{ScriptFault}
use Rattle.sa_script.specs.declared.fault.ScriptFault.TheVariants.{Bad, OutOfMemory}
use Rattle.sa_script.specs.Fault.{Fault}

abbrev pub Tells : (Fault → Type 0) → ScriptFault → Type 0
Tells Is (Bad kind place line) = Is (record { kind = kind; place = place; line = line })
Tells Is OutOfMemory = ⊤
