use Rattle.std.proofs.Common.{◌≡◌, map, take}
use Rattle.sa_plan.specs.Scan.{sought}
use Rattle.sa_cursor.proofs.sought.sought_tuple.Given as goal

abbrev pub invariant-loop-part : goal.invariant-loop-part
invariant-loop-part g l =
    l.tuple ≡ map (sought (g.R.Cells.cell_of l.earlier)) (take l.part-index l.from)
