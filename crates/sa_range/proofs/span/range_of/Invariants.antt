use Rattle.std.proofs.Common.{◌≡◌, ◌≤◌, [], length, drop}
use Rattle.sa_range.specs.RangeList.{range_of}
use Rattle.sa_range.proofs.span.range_of.Given as goal

abbrev pub invariant-loop-piece : goal.invariant-loop-piece
invariant-loop-piece l = record { same : range_of l.points (drop l.piece-index l.walk) ≡ range_of [] l.walk; short : length l.points ≤ l.piece-index }
