use Rattle.std.proofs.Common.{◌≡◌, map, take}
use Rattle.sa_table.specs.Table.{Table}
use Rattle.sa_plan.specs.Names.{table_names}
use Rattle.sa_plan.proofs.names.Names.of.Given as goal

abbrev pub invariant-loop-table : goal.invariant-loop-table
invariant-loop-table l = l.names.items ≡ map (λ (table : Table). table_names table.def) (take l.table l.tables)
