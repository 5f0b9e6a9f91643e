use Rattle.std.proofs.Common.{◌≡◌, map, take}
use Rattle.std.specs.List.{enumerate_from}
use Rattle.sa_script.specs.Create.{key_of}
use Rattle.sa_script.proofs.create.key_defs.Given as goal

abbrev pub invariant-loop-index : goal.invariant-loop-index
invariant-loop-index l = l.defs.items ≡ map (key_of l.columns) (enumerate_from 1 (take l.index l.keys))
