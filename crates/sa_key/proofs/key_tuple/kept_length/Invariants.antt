use Rattle.std.proofs.Common.{◌≡◌, take}
use Rattle.sa_key.specs.Range.{without_last_nulls}
use Rattle.sa_key.proofs.key_tuple.kept_length.Given as goal

abbrev pub invariant-loop-index : goal.invariant-loop-index
invariant-loop-index l = take l.kept l.values ≡ without_last_nulls (take l.index l.values)
