use Rattle.std.proofs.Common.{◌≡◌, map, take}
use Rattle.sa_table.specs.declared.def.KeyDef.{KeyDef}
use Rattle.sa_plan.proofs.names.key_names.Given as goal

abbrev pub invariant-loop-key : goal.invariant-loop-key
invariant-loop-key l = l.names.items ≡ map (λ (key : KeyDef). key.name) (take l.key-index l.keys)
