use Rattle.std.proofs.Common.{◌∙◌, sym, ap, length}
use Rattle.std.proofs.lemmas.List.FromFn.{length-map-range_with_len}
use Rattle.sa_table.specs.Table.{Table}
use Rattle.sa_table.specs.inner.Store.{row_in}
use Rattle.sa_table.proofs.stored.StoredTable.count.Goals as goal

pub returns : goal.returns
returns c = sym (length-map-range_with_len (row_in c.self.inside.store.columns.items) 0 c.self.inside.store.count) ∙ ap (λ (table : Table). length table.rows) c.self.view_is
