use Rattle.std.proofs.Common.{◌≡◌, drop}
use Rattle.sa_range.specs.inner.Longer.{is_ended}
use Rattle.sa_range.proofs.longer.is_ended.Given as goal

abbrev pub invariant-loop-piece : goal.invariant-loop-piece
invariant-loop-piece l = is_ended (drop l.piece-index l.walk) ≡ is_ended l.walk
