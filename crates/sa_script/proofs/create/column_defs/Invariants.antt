use Rattle.std.proofs.Common.{◌≡◌, map, take}
use Rattle.sa_script.specs.Create.{column_of}
use Rattle.sa_script.proofs.create.column_defs.Given as goal

abbrev pub invariant-loop-column : goal.invariant-loop-column
invariant-loop-column l = l.defs.items ≡ map column_of (take l.column-index l.columns)
