use Rattle.std.proofs.Common.{sym, ◌∙◌, ap, Some, arith}
use Rattle.sa_table.proofs.CellsLemmas.{null_at, item_at}
use Rattle.sa_table.proofs.cells.Cells.get.Goals as goal

pub returns-then-is_null : goal.returns-then-is_null
returns-then-is_null g c = null_at c.args.self.now.nulls.items c.args.self.now.items.items c.args.row (sym c.is_null.ensures ∙ c.if-is_null.true)

pub returns-else-is_null : goal.returns-else-is_null
returns-else-is_null g c = ap Some c.index.ensures ∙ item_at c.args.self.now.nulls.items c.args.self.now.items.items c.args.row _ (omega arith) (sym c.is_null.ensures ∙ c.if-is_null.false)
