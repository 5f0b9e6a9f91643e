use Rattle.std.proofs.Common.{◌≡◌, ◌++◌, ◌∷◌, [], ◌-◌, length, drop}
use Rattle.sa_range.specs.Atom.{piece_at}
use Rattle.sa_range.specs.inner.Placed.{placed, chosen_at}
use Rattle.sa_range.proofs.chosen.Chosen.piece_at.Given as goal

abbrev pub invariant-loop-index : goal.invariant-loop-index
invariant-loop-index l =
    piece_at l.column (placed (drop l.index l.columns) (drop l.index l.points) ++ (l.self.column, l.self.piece.now) ∷ []) ≡ piece_at l.column (chosen_at l.self)

abbrev pub decreases-loop-index : goal.decreases-loop-index
decreases-loop-index l = length l.columns - l.index
