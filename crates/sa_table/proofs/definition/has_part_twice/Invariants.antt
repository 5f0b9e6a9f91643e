use Rattle.std.proofs.Common.{◌≡◌, drop, nat_eq}
use Rattle.sa_table.specs.Create.{any_alike}
use Rattle.sa_table.proofs.definition.has_part_twice.Given as goal

abbrev pub invariant-loop-number : goal.invariant-loop-number
invariant-loop-number l = any_alike nat_eq (drop l.number l.parts) ≡ any_alike nat_eq l.parts
