use Rattle.std.proofs.Common.{◌≤◌}
use Rattle.sa_index_tests.proofs.every_cut.distinct_is_right.Given as goal

abbrev pub invariant-loop-row : goal.invariant-loop-row
invariant-loop-row g l = l.expected ≤ l.row
