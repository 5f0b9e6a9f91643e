use Rattle.std.proofs.Common.{◌≡◌, ◌≤◌, length, take, flat_map}
use Rattle.sa_range.specs.inner.Longer.{longer_of}
use Rattle.sa_range.proofs.longer.longer.Given as goal

abbrev pub invariant-loop-walk : goal.invariant-loop-walk
invariant-loop-walk l = record {
  found : l.longer.items ≡ flat_map (longer_of l.step.condition.now l.step.table l.step.columns.now l.step.column l.step.line.now) (take l.walk-index l.walks);
  few : length l.longer.items ≤ 1024;
}
