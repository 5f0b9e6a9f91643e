use Rattle.std.proofs.Common.{◌≡◌, take}
use Rattle.sa_key.proofs.key_tuple.KeyTuple.view.Given as goal

abbrev pub invariant-loop-value : goal.invariant-loop-value
invariant-loop-value l = l.lent ≡ take l.value-index l.value-items
