use Rattle.sa_ast.specs.declared.select.OrderTree.{OrderTree}
use Rattle.sa_resolve.specs.Clauses.{item_reading}
use Rattle.sa_resolve.specs.Expression.{first}
use Rattle.sa_resolve.proofs.judging.Turns.{have_all, have_more}
use Rattle.sa_resolve.proofs.clauses.Reader.order.Goals as goal

pub loop-item-preserved : goal.loop-item-preserved
loop-item-preserved c = λ tables tree slots knows.
    have_more (λ (one : OrderTree). item_reading tables tree slots first one.value) c.args.order.now c.loop-item.item-index c.item-item.result
    c.loop-item-test.true c.item-item.is c.args.aggregates.now.items _ _ c.loop-item.looked.items _ c.in_ok-item.field-0 (c.loop-item.invariant tables tree slots knows)
    (c.in_ok-item.ensures tables tree slots first knows (c.answered-scope.ensures.sees tables tree slots knows) c.answered-scope.ensures.sight) c.in_ok-push.ensures.items

pub returns : goal.returns
returns c = λ tables tree slots knows.
    have_all (λ (one : OrderTree). item_reading tables tree slots first one.value) c.args.order.now c.loop-item.item-index c.loop-item-test.false
    c.args.aggregates.now.items _ c.loop-item.looked.items (c.loop-item.invariant tables tree slots knows)
