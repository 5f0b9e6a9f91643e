use Rattle.std.proofs.Common.{◌≡◌, ◌++◌, map, All, IsTrue}
use Rattle.sa_run.proofs.run.ended_passes.Given as goal

-- All so far have closed, and these are their passes.
abbrev pub invariant-loop-member : goal.invariant-loop-member
invariant-loop-member l = record {
  passes : l.passes.items ≡ map (λ member. member.pass) l.yielded;
  all : l.yielded ++ l.member-iterator.rest.items ≡ l.initial.member-iterator.rest.items;
  ended : All (λ member. IsTrue member.ended) l.yielded;
}
