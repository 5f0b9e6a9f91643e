use Rattle.std.proofs.Common.{◌≤◌}
use Rattle.sa_index_tests.proofs.place.counts_at.Given as goal

abbrev pub invariant-loop-row : goal.invariant-loop-row
invariant-loop-row l = record { less : l.less ≤ l.row; up_to : l.up_to ≤ l.row }
