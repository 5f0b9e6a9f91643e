use Rattle.std.proofs.Common.{◌<◌, length, sym, ◌∙◌, arith}
use Rattle.sa_key.proofs.OrderLemmas.{decided, passed_on}
use Rattle.sa_key.proofs.order.order_front.Goals as goal

pub returns-then-is_ne : goal.returns-then-is_ne
returns-then-is_ne c =
    let here : c.loop-index.index < length c.args.other.now = omega (arith, c.loop-index-test.true, c.len-index-end.ensures.value) in
    decided c.args.tuple.now c.args.other.now c.loop-index.index _ _ c.order_of-order.result here c.requires c.get.ensures c.get-in-loop-index.ensures c.order_of-order.ensures (sym c.is_ne.ensures ∙ c.if-is_ne.true)
    ∙ c.loop-index.invariant

pub loop-index-preserved : goal.loop-index-preserved
loop-index-preserved c =
    let here : c.loop-index.index < length c.args.other.now = omega (arith, c.loop-index-test.true, c.len-index-end.ensures.value) in
    passed_on c.args.tuple.now c.args.other.now c.loop-index.index _ _ c.order_of-order.result here c.requires c.get.ensures c.get-in-loop-index.ensures c.order_of-order.ensures (sym c.is_ne.ensures ∙ c.if-is_ne.false)
    ∙ c.loop-index.invariant
