use Rattle.std.proofs.Common.{◌≡◌, map, take}
use Rattle.sa_script.specs.Create.{part_of}
use Rattle.sa_script.proofs.create.key_parts.Given as goal

abbrev pub invariant-loop-name : goal.invariant-loop-name
invariant-loop-name l = l.parts.items ≡ map (part_of l.columns l.names) (take l.name-index l.names)
