use Rattle.std.proofs.Common.{◌||◌, ◌+◌, ◌-◌, length, drop}
use Rattle.sa_interval.specs.Canonical.{lies_in}
use Rattle.sa_interval.proofs.Merging.{Merging}
use Rattle.sa_interval.proofs.uniting.unite.Given as goal

-- What was put, and what is left of both lists.
abbrev pub invariant-loop-i : goal.invariant-loop-i
invariant-loop-i l = Merging (λ cut. lies_in l.ranges cut || lies_in l.others cut) l.united.items (drop l.i l.ranges) (drop l.j l.others)

abbrev pub decreases-loop-i : goal.decreases-loop-i
decreases-loop-i l = (length l.ranges - l.i) + (length l.others - l.j)
