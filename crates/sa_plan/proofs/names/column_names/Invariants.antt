use Rattle.std.proofs.Common.{◌≡◌, map, take}
use Rattle.sa_table.specs.declared.def.ColumnDef.{ColumnDef}
use Rattle.sa_plan.proofs.names.column_names.Given as goal

abbrev pub invariant-loop-column : goal.invariant-loop-column
invariant-loop-column l = l.names.items ≡ map (λ (column : ColumnDef). column.name) (take l.column-index l.columns)
