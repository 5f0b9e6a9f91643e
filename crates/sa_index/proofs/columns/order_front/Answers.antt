use Rattle.std.proofs.Common.{◌<◌, length, sym, ◌∙◌, arith}
use Rattle.std.proofs.lemmas.Option.{get_or_from_slice_get}
use Rattle.sa_value.specs.declared.value.Value.TheVariants.{Null}
use Rattle.sa_index.proofs.ColumnLemmas.{decided, passed_on}
use Rattle.sa_index.proofs.columns.order_front.Goals as goal

pub returns-then-is_ne : goal.returns-then-is_ne
returns-then-is_ne c =
    let here : c.loop-part.part < length c.args.tuple.now = omega (arith, c.loop-part-test.true, c.len-part-end.ensures.value) in
    decided c.args.columns.now c.args.position c.args.tuple.now c.loop-part.part c.index-columns-part.result _ c.order_at-order.result
    here c.requires c.index-columns-part.is (get_or_from_slice_get c.args.tuple.now c.loop-part.part _ Null c.get.ensures)
    c.order_at-order.ensures (sym c.is_ne.ensures ∙ c.if-is_ne.true)
    ∙ c.loop-part.invariant

pub loop-part-preserved : goal.loop-part-preserved
loop-part-preserved c =
    let here : c.loop-part.part < length c.args.tuple.now = omega (arith, c.loop-part-test.true, c.len-part-end.ensures.value) in
    passed_on c.args.columns.now c.args.position c.args.tuple.now c.loop-part.part c.index-columns-part.result _ c.order_at-order.result
    here c.requires c.index-columns-part.is (get_or_from_slice_get c.args.tuple.now c.loop-part.part _ Null c.get.ensures)
    c.order_at-order.ensures (sym c.is_ne.ensures ∙ c.if-is_ne.false)
    ∙ c.loop-part.invariant
