use Rattle.std.proofs.Common.{◌≡◌, ◌++◌, map}
use Rattle.std.specs.Vec.{vec_capacity}
use Rattle.sa_desk.proofs.plain.PlainDesks.finish.Given as goal

-- The journals of the desks so far are there, in the room that was reserved.
abbrev pub invariant-loop-desk : goal.invariant-loop-desk
invariant-loop-desk l = record {
  finished : l.journals.items ≡ map (λ desk. desk.journal) l.yielded;
  all : l.yielded ++ l.desk-iterator.rest.items ≡ l.initial.desk-iterator.rest.items;
  room : vec_capacity l.journals ≡ vec_capacity l.initial.journals;
}
