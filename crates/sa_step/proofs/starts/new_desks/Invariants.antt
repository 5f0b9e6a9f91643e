use Rattle.std.proofs.Common.{◌≡◌, map, All}
use Rattle.std.specs.List.{range_with_len}
use Rattle.sa_desk.specs.Contents.{IsSound}
use Rattle.sa_step.specs.Starts.{desk_in}
use Rattle.sa_step.proofs.starts.new_desks.Given as goal

abbrev pub invariant-loop-place : goal.invariant-loop-place
invariant-loop-place l = record {
  desks : l.desks.items ≡ map (desk_in l.statements l.quantum l.turns) (range_with_len 1 l.place);
  sound : All IsSound l.desks.items;
}
