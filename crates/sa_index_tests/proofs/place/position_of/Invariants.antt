use Rattle.std.proofs.Common.{◌≤◌}
use Rattle.sa_index_tests.proofs.place.position_of.Given as goal

abbrev pub invariant-loop-row : goal.invariant-loop-row
invariant-loop-row l = l.before ≤ l.row
