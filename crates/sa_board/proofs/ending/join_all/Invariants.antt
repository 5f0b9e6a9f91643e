use Rattle.std.proofs.Common.{◌≡◌, ◌++◌, [], map}
use Rattle.sa_board.specs.Pass.{known_of}
use Rattle.sa_board.proofs.ending.join_all.Given as goal

-- The seat stands for the sessions so far.
abbrev pub invariant-loop-pass : goal.invariant-loop-pass
invariant-loop-pass l = record {
  known : l.seat.me.0.known ≡ l.initial.seat.me.0.known ++ map known_of l.yielded;
  out : l.seat.me.0.out ≡ 0;
  away : l.seat.me.1 ≡ [];
  table : l.seat.table_id ≡ l.initial.seat.table_id;
  all : l.yielded ++ l.pass-iterator.rest.items ≡ l.initial.pass-iterator.rest.items;
}
