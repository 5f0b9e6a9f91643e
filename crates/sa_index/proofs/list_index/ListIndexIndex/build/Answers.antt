use Rattle.std.proofs.Common.{ℕ, List, sym, subst, ◌∙◌}
use Rattle.sa_table.specs.Table.{Table}
use Rattle.sa_index.specs.inner.Built.{AreBuilt}
use Rattle.sa_index.specs.inner.Columns.{AreKept}
use Rattle.sa_index.proofs.BuiltLemmas.{built-in_order}
use Rattle.sa_index.proofs.list_index.ListIndexIndex.build.Goals as goal

pub invariant_of-result : goal.invariant_of-result
invariant_of-result c =
    subst (λ (tables : List Table). AreBuilt (record { tables = tables; table = c.args.table; key = c.args.key }) c.in_ok-rows.rows.items c.distinct_counts-counts.result.items c.in_ok-columns.columns.items) (sym c.of.ensures)
    (built-in_order c.order_of_tuples_is_total.ensures (record { tables = c.args.tables.now; table = c.args.table; key = c.args.key })
    c.parts_of-parts.result.now c.in_ok-rows.rows.items c.deref.result.now c.distinct_counts-counts.result.items c.in_ok-columns.columns.items
    c.parts_of-parts.ensures.value c.deref.ensures.value c.requires.there c.in_ok-rows.ensures.few c.in_ok-rows.ensures.in_order
    c.distinct_counts-counts.ensures
    (subst (λ (rows : List ℕ). AreKept c.args.tables.now c.args.table c.parts_of-parts.result.now rows c.in_ok-columns.columns.items) (c.deref-2.ensures.value ∙ sym c.deref.ensures.value) c.in_ok-columns.ensures))
