use Rattle.std.proofs.Common.{◌∙◌, ◌<◌, [], sym, ap, length, get_or, arith}
use Rattle.std.proofs.lemmas.List.FromFn.{length-map-range_with_len}
use Rattle.sa_table.specs.Table.{Table, value_in}
use Rattle.sa_table.specs.inner.Store.{row_in}
use Rattle.sa_table.proofs.StoreLemmas.{rows_of_at}
use Rattle.sa_table.proofs.stored.StoredTable.cell.Goals as goal

pub cell-requires-clause-row_there : goal.cell-requires-clause-row_there
cell-requires-clause-row_there c =
    omega (arith, c.requires.row_there, length-map-range_with_len (row_in c.self.inside.store.columns.items) 0 c.self.inside.store.count, ap (λ (table : Table). length table.rows) c.self.view_is)

pub returns : goal.returns
returns c =
    let store = c.self.inside.store in
    let there : c.args.row < store.count = omega (arith, c.requires.row_there, length-map-range_with_len (row_in store.columns.items) 0 store.count, ap (λ (table : Table). length table.rows) c.self.view_is) in
    c.cell.ensures
    ∙ ap (λ row. value_in row c.args.column) (sym (rows_of_at store.columns.items store.count c.args.row [] there))
    ∙ ap (λ (table : Table). value_in (get_or table.rows c.args.row []) c.args.column) c.self.view_is
