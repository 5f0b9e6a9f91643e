use Rattle.std.proofs.Common.{◌≡◌}
use Rattle.sa_table.specs.AddRow.{key_faults}
use Rattle.sa_table.specs.inner.First.{first}
use Rattle.sa_table.specs.inner.Store.{rows_in}
use Rattle.sa_table.proofs.KeyFaultLemmas.{faults_from}
use Rattle.sa_table.proofs.keys.key_fault.Given as goal

abbrev pub invariant-loop-number : goal.invariant-loop-number
invariant-loop-number l = first (faults_from l.keys (rows_in l.store) l.row l.number) ≡ first (key_faults l.keys (rows_in l.store) l.row)
