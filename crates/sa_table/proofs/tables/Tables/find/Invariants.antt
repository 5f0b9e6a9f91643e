use Rattle.std.proofs.Common.{◌≡◌, ℕ, ◌<◌, get_or, false}
use Rattle.sa_table.specs.Table.{Table}
use Rattle.sa_table.specs.Create.{same_name}
use Rattle.sa_table.proofs.tables.Tables.find.Given as goal

abbrev pub invariant-loop-number : goal.invariant-loop-number
invariant-loop-number l = (k : ℕ) (table : Table) → k < l.number → same_name (get_or l.table-items k table).def.name l.name ≡ false
