use Rattle.std.proofs.Common.{◌≡◌, take}
use Rattle.sa_count.proofs.report.Report.copy.Given as goal

abbrev pub invariant-loop-counters : goal.invariant-loop-counters
invariant-loop-counters l = l.tables.items ≡ take l.counters-index l.counters-items
