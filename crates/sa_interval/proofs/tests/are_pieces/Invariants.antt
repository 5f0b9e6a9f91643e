use Rattle.std.proofs.Common.{take}
use Rattle.sa_interval.specs.Canonical.{ArePieces}
use Rattle.sa_interval.proofs.tests.are_pieces.Given as goal

-- The pieces so far rise and are disjoint.
abbrev pub invariant-loop-index : goal.invariant-loop-index
invariant-loop-index l = ArePieces (take l.index l.each)
