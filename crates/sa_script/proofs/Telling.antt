-- What holds of each fault that is told.
use Rattle.sa_script.specs.declared.fault.ScriptFault.{ScriptFault}
use Rattle.sa_script.specs.declared.fault.ScriptFault.TheVariants.{Bad, OutOfMemory}
use Rattle.sa_script.specs.Fault.{Fault}
use Rattle.sa_script.specs.inner.Tells.{Tells}

pub tells_more : (P Q : Fault → Type 0) (told : ScriptFault) → ((fault : Fault) → P fault → Q fault) → Tells P told → Tells Q told
tells_more P Q (Bad kind place line) more h = more (record { kind = kind; place = place; line = line }) h
tells_more P Q OutOfMemory more h = h
