use Rattle.std.proofs.Common.{◌≡◌, ◌∙◌, sym, ap, subst, length, true, arith}
use Rattle.std.proofs.lemmas.List.FromFn.{length-map-range_with_len}
use Rattle.std.specs.Prelude.{All}
use Rattle.sa_table.specs.Table.{Table, is_unique}
use Rattle.sa_table.specs.AddRow.{row_faults, column_faults, key_faults}
use Rattle.sa_table.specs.inner.First.{first}
use Rattle.sa_table.specs.inner.Keys.{IsSearchable}
use Rattle.sa_table.specs.inner.Store.{row_in, rows_in}
use Rattle.sa_table.proofs.FirstLemmas.{nil_from_first}
use Rattle.sa_table.proofs.GrowthLemmas.{full_first, arity_first, column_first, key_first, searchable}
use Rattle.sa_table.proofs.stored.StoredTable.row_fault.Goals as goal

pub returns-then-self-ge-MOST_ROWS : goal.returns-then-self-ge-MOST_ROWS
returns-then-self-ge-MOST_ROWS c =
    let store = c.self.inside.store in
    let table : Table = record { def = c.self.inside.def; rows = rows_in store } in
    full_first table c.args.row.now (omega (arith, length-map-range_with_len (row_in store.columns.items) 0 store.count))
    ∙ ap (λ table. first (row_faults table c.args.row.now)) c.self.view_is

pub returns-then-row-columns : goal.returns-then-row-columns
returns-then-row-columns c =
    let store = c.self.inside.store in
    let table : Table = record { def = c.self.inside.def; rows = rows_in store } in
    arity_first table c.args.row.now (omega (arith, length-map-range_with_len (row_in store.columns.items) 0 store.count)) (λ e. c.if-row-columns.true (e ∙ ap length (sym c.as_slice-columns.ensures)))
    ∙ ap (λ table. first (row_faults table c.args.row.now)) c.self.view_is

pub returns-in-Some : goal.returns-in-Some
returns-in-Some c =
    let store = c.self.inside.store in
    let table : Table = record { def = c.self.inside.def; rows = rows_in store } in
    column_first table c.args.row.now c.in-Some.fault (omega (arith, length-map-range_with_len (row_in store.columns.items) 0 store.count)) (c.if-row-columns.false ∙ ap length c.as_slice-columns.ensures)
    (ap (λ columns. first (column_faults columns c.args.row.now)) (sym c.as_slice-columns.ensures) ∙ sym c.in-Some.ensures)
    ∙ ap (λ table. first (row_faults table c.args.row.now)) c.self.view_is

pub key_fault-requires-clause-searchable : goal.key_fault-requires-clause-searchable
key_fault-requires-clause-searchable c =
    let inside = c.self.inside in
    subst (λ keys. All (λ key. is_unique key ≡ true → IsSearchable inside.store key c.args.row.now) keys) (sym c.as_slice.ensures)
    (searchable inside.def inside.store inside.indexes.items c.args.row.now c.self.invariant (c.if-row-columns.false ∙ ap length c.as_slice-columns.ensures)
    (nil_from_first _ (ap (λ columns. first (column_faults columns c.args.row.now)) (sym c.as_slice-columns.ensures) ∙ sym c.column_fault.ensures ∙ c.in_default.is)))

pub returns : goal.returns
returns c =
    let store = c.self.inside.store in
    let table : Table = record { def = c.self.inside.def; rows = rows_in store } in
    c.key_fault.ensures
    ∙ ap (λ keys. first (key_faults keys (rows_in store) c.args.row.now)) c.as_slice.ensures
    ∙ key_first table c.args.row.now (omega (arith, length-map-range_with_len (row_in store.columns.items) 0 store.count)) (c.if-row-columns.false ∙ ap length c.as_slice-columns.ensures)
    (ap (λ columns. first (column_faults columns c.args.row.now)) (sym c.as_slice-columns.ensures) ∙ sym c.column_fault.ensures ∙ c.in_default.is)
    ∙ ap (λ table. first (row_faults table c.args.row.now)) c.self.view_is
