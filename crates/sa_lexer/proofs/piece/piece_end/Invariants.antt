use Rattle.std.proofs.Common.{length, ◌-◌, ◌≡◌, ◌≤◌, drop}
use Rattle.sa_lexer.specs.Piece.{end_from, piece_end_at}
use Rattle.sa_lexer.proofs.piece.piece_end.Given as goal

abbrev pub invariant-loop-place : goal.invariant-loop-place
invariant-loop-place l =
    record {
      after : l.from ≤ l.place;
      within : l.place ≤ length l.bytes;
      same : end_from 0 l.place (drop l.place l.bytes) ≡ piece_end_at l.from l.bytes;
    }

abbrev pub decreases-loop-place : goal.decreases-loop-place
decreases-loop-place l = length l.bytes - l.place
