use Rattle.std.proofs.Common.{◌≡◌, ◌++◌, drop}
use Rattle.sa_range.specs.Line.{pieces_from, pieces_of}
use Rattle.sa_range.proofs.pieces.pieces_of.Given as goal

abbrev pub invariant-loop-value : goal.invariant-loop-value
invariant-loop-value l = l.line.items ++ pieces_from l.lower (drop l.value-index l.constants) ≡ pieces_of l.constants
