use Rattle.std.proofs.Common.{◌≡◌, drop}
use Rattle.sa_table.specs.Create.{any_alike, same_name}
use Rattle.sa_table.proofs.definition.has_column_twice.Given as goal

abbrev pub invariant-loop-number : goal.invariant-loop-number
invariant-loop-number l = any_alike (λ a b. same_name a.name b.name) (drop l.number l.columns) ≡ any_alike (λ a b. same_name a.name b.name) l.columns
