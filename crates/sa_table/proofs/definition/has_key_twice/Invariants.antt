use Rattle.std.proofs.Common.{◌≡◌, drop}
use Rattle.sa_table.specs.Create.{any_alike, same_key_name}
use Rattle.sa_table.proofs.definition.has_key_twice.Given as goal

abbrev pub invariant-loop-number : goal.invariant-loop-number
invariant-loop-number l = any_alike same_key_name (drop l.number l.keys) ≡ any_alike same_key_name l.keys
