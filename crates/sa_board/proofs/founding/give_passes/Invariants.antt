use Rattle.std.proofs.Common.{◌≡◌, ◌-◌, map}
use Rattle.std.specs.List.{range_with_len}
use Rattle.std.specs.Vec.{vec_capacity}
use Rattle.sa_board.specs.Board.{new_pass}
use Rattle.sa_board.proofs.Passes.{first_seat}
use Rattle.sa_board.proofs.founding.give_passes.Given as goal

-- The numbers before this one are given, and the passes of their sessions but the first are there.
abbrev pub invariant-loop-session : goal.invariant-loop-session
invariant-loop-session l = record {
  first : l.first.me ≡ first_seat l.board.founded (l.session - 1);
  table : l.first.table_id ≡ l.initial.first.table_id;
  others : l.passes.items ≡ map (new_pass l.board) (range_with_len 2 (l.session - 2));
  room : vec_capacity l.passes ≡ vec_capacity l.initial.passes;
}
