use Rattle.std.proofs.Common.{◌≡◌, ◌-◌, map, All}
use Rattle.std.specs.List.{range_with_len}
use Rattle.std.specs.Vec.{vec_capacity}
use Rattle.sa_desk.specs.Contents.{IsSound}
use Rattle.sa_board_tests.specs.Start.{even_desk}
use Rattle.sa_board_tests.proofs.tests.start.desks_of.Given as goal

-- The desks before this one are there.
abbrev pub invariant-loop-number : goal.invariant-loop-number
invariant-loop-number l = record {
  made : l.desks.items ≡ map (even_desk l.sessions l.quantum l.turns l.share) (range_with_len 1 (l.number - 1));
  sound : All IsSound l.desks.items;
  room : vec_capacity l.desks ≡ vec_capacity l.initial.desks;
}
