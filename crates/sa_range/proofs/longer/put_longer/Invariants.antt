use Rattle.std.proofs.Common.{◌≡◌, ◌++◌, take, flat_map}
use Rattle.sa_range.specs.inner.Longer.{with_piece}
use Rattle.sa_range.proofs.longer.put_longer.Given as goal

abbrev pub invariant-loop-piece : goal.invariant-loop-piece
invariant-loop-piece l = l.longer.items ≡ l.initial.longer.items ++ flat_map (with_piece l.step.condition.now l.step.table l.step.columns.now l.step.column l.walk) (take l.piece-index l.step.line.now)
