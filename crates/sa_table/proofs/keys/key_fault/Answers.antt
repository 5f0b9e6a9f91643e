use Rattle.std.proofs.Common.{ap}
use Rattle.sa_table.specs.inner.First.{first}
use Rattle.sa_table.specs.inner.Store.{rows_in}
use Rattle.sa_table.proofs.KeyFaultLemmas.{key_faults_is}
use Rattle.sa_table.proofs.keys.key_fault.Goals as goal

pub loop-number-init : goal.loop-number-init
loop-number-init c = ap first (key_faults_is c.args.keys.now (rows_in c.args.store.now) c.args.row.now)
