use Rattle.std.proofs.Common.{◌≡◌, ◌++◌, map, Some}
use Rattle.std.specs.Vec.{vec_capacity}
use Rattle.sa_board.proofs.founding.in_slots.Given as goal

-- The desks so far are in slots, in the room that was reserved.
abbrev pub invariant-loop-desk : goal.invariant-loop-desk
invariant-loop-desk l = record {
  done : l.slots.items ≡ map Some l.yielded;
  all : l.yielded ++ l.desk-iterator.rest.items ≡ l.initial.desk-iterator.rest.items;
  room : vec_capacity l.slots ≡ vec_capacity l.initial.slots;
}
