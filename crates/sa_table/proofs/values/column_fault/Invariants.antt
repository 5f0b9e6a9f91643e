use Rattle.std.proofs.Common.{◌≡◌}
use Rattle.sa_table.specs.AddRow.{column_faults}
use Rattle.sa_table.specs.inner.First.{first}
use Rattle.sa_table.proofs.ColumnFaultLemmas.{faults_from}
use Rattle.sa_table.proofs.values.column_fault.Given as goal

abbrev pub invariant-loop-column : goal.invariant-loop-column
invariant-loop-column l = first (faults_from l.columns l.row l.column) ≡ first (column_faults l.columns l.row)
