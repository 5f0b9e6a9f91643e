use Rattle.std.proofs.Common.{◌≡◌}
use Rattle.sa_board.proofs.board.acquire.Given as goal

-- So far the desk wasn't taken, and nothing has changed.
abbrev pub invariant-waiting : goal.invariant-waiting
invariant-waiting g l = record {
  table : l.seat.table_id ≡ l.initial.seat.table_id;
  id : l.seat.id ≡ l.initial.seat.id;
  same : l.seat.me ≡ l.initial.seat.me;
}
