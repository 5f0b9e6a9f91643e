use Rattle.std.proofs.Common.{◌<◌, length}
use Rattle.sa_worker_tests.proofs.tests.query.tables.Given as goal

abbrev pub invariant-loop-number : goal.invariant-loop-number
invariant-loop-number l = l.table < length l.tables
