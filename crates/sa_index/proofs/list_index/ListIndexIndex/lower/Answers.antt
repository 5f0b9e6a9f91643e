use Rattle.std.proofs.Common.{List, length, sym, ap, subst, ◌∙◌, arith}
use Rattle.sa_key.specs.Cut.{cut_at}
use Rattle.sa_table.specs.Table.{Table}
use Rattle.sa_value.specs.declared.value.Value.{Value}
use Rattle.sa_index.specs.Indexed.{Indexed, parts_of}
use Rattle.sa_index.specs.Entries.{count_before}
use Rattle.sa_index.specs.inner.Columns.{IsParted, LiesBetween}
use Rattle.sa_index.proofs.LowerLemmas.{columns-parted, columns-counted}
use Rattle.sa_index.proofs.list_index.ListIndexIndex.lower.Goals as goal

pub positions_before-requires-clause-parted : goal.positions_before-requires-clause-parted
positions_before-requires-clause-parted c =
    let tables_are = c.requires.same ∙ ap (λ (index : Indexed). index.tables) (sym c.self.view_is) in
    let parts_are = c.parts_of-parts.ensures.value ∙ ap (λ (tables : List Table). parts_of tables c.self.inside.table c.self.inside.key) tables_are in
    let wide = ap length parts_are in
    subst (λ (columns : List (List Value)). IsParted columns c.len-then-len-parts.result (cut_at c.args.cut.now)) (sym c.deref.ensures.value)
    (columns-parted c.order_of_tuples_is_total.ensures c.before_goes_down.ensures _ _ _ _ c.self.invariant (omega arith) c.len-then-len-parts.result (cut_at c.args.cut.now) (omega arith))

pub returns-then-len-parts : goal.returns-then-len-parts
returns-then-len-parts c =
    let tables_are = c.requires.same ∙ ap (λ (index : Indexed). index.tables) (sym c.self.view_is) in
    let parts_are = c.parts_of-parts.ensures.value ∙ ap (λ (tables : List Table). parts_of tables c.self.inside.table c.self.inside.key) tables_are in
    let wide = ap length parts_are in
    columns-counted _ _ _ _ c.self.invariant (omega arith) c.len-then-len-parts.result c.positions_before.result (cut_at c.args.cut.now) (omega arith)
    (subst (λ (columns : List (List Value)). LiesBetween columns c.len-then-len-parts.result (cut_at c.args.cut.now) c.positions_before.result c.positions_before.result) c.deref.ensures.value c.positions_before.ensures)
    ∙ ap (λ (index : Indexed). count_before index (cut_at c.args.cut.now)) c.self.view_is
