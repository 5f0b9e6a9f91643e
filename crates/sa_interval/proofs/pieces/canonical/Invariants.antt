use Rattle.sa_interval.proofs.Gathering.{Gathering}
use Rattle.sa_interval.proofs.pieces.canonical.Given as goal

-- The list is that of the pieces so far.
abbrev pub invariant-loop-piece : goal.invariant-loop-piece
invariant-loop-piece l = Gathering l.fn.pieces l.list.items l.yielded l.piece-iterator.rest.items
