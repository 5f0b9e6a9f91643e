use Rattle.std.proofs.Common.{arith}
use Rattle.sa_table.proofs.CellsLemmas.{item_pushed}
use Rattle.sa_table.proofs.cells.Cells.push.Goals as goal

pub returns : goal.returns
returns g c = rw c.push_reserved.ensures.items (item_pushed _ _ _ (omega arith))
