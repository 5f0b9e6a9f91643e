use Rattle.std.proofs.Common.{◌-◌}
use Rattle.sa_key.specs.Cut.{cut_at}
use Rattle.sa_index.specs.inner.Columns.{LiesBetween}
use Rattle.sa_index.proofs.columns.positions_before.Given as goal

abbrev pub invariant-loop-low : goal.invariant-loop-low
invariant-loop-low l = LiesBetween l.columns l.positions (cut_at l.cut) l.low l.high

abbrev pub decreases-loop-low : goal.decreases-loop-low
decreases-loop-low l = l.high - l.low
