use Rattle.std.proofs.Common.{◌≡◌, ℕ, ◌<◌, ◌≤◌, false, true, [], length, Some}
use Rattle.std.specs.Prelude.{slice_index_or}
use Rattle.std.specs.Vec.{vec_capacity}
use Rattle.std.specs.Slots.{slots_items, slots_filled, slots_len}
use mathlib.Core.Option.{some}
use lib.ListN.{get_elem?}
use Rattle.sa_desk.specs.Contents.{Contents}
use Rattle.sa_board.proofs.board.Board.finish.Given as goal

-- The desks before this one are taken, and their journals are there, in the room that was reserved.
abbrev pub invariant-loop-index : goal.invariant-loop-index
invariant-loop-index l = record {
  items : slots_items l.closed.slots ≡ slots_items l.initial.closed.slots;
  long : slots_len l.closed.slots ≡ slots_len l.initial.closed.slots;
  before : (k : ℕ) → k < l.index → slice_index_or (slots_filled l.closed.slots) k false ≡ false;
  after : (k : ℕ) → l.index ≤ k → k < slots_len l.closed.slots → slice_index_or (slots_filled l.closed.slots) k false ≡ true;
  count : length l.journals.items ≡ l.index;
  each : (k : ℕ) (desk : Contents) → k < l.index → get_elem? (slots_items l.initial.closed.slots) k ≡ some (Some desk) → slice_index_or l.journals.items k [] ≡ desk.journal;
  room : vec_capacity l.journals ≡ vec_capacity l.initial.journals;
}
