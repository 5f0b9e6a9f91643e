use Rattle.std.proofs.Common.{◌≡◌, ◌≤◌, map, length, drop}
use Rattle.std.specs.List.{range_with_len}
use Rattle.std.specs.Arc.{arc_value}
use Rattle.sa_step.specs.Sessions.{first_in}
use Rattle.sa_step.proofs.starts.new_workers.Given as goal

abbrev pub invariant-loop-texts : goal.invariant-loop-texts
invariant-loop-texts l = record {
  left : l.left.items ≡ drop (length l.workers.items) l.fn.statements.items;
  within : length l.workers.items ≤ length l.fn.statements.items;
  workers : l.workers.items ≡ map (first_in (record { tables = arc_value l.tables; texts = l.fn.statements.items; quantum = l.quantum; turns = l.turns })) (range_with_len 1 (length l.workers.items));
}

abbrev pub decreases-loop-texts : goal.decreases-loop-texts
decreases-loop-texts l = length l.left.items
