use Rattle.std.proofs.Common.{◌≡◌, ◌++◌, map, take, drop}
use Rattle.sa_script.specs.inner.Places as places
use Rattle.sa_script.proofs.reads.moved.Given as goal

abbrev pub invariant-loop-token : goal.invariant-loop-token
invariant-loop-token l = l.token-items ≡ map (places.moved l.by) (take l.token-index l.initial.token-items) ++ drop l.token-index l.initial.token-items
