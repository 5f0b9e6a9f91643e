use Rattle.sa_ast.specs.declared.select.GroupTree.{GroupTree}
use Rattle.sa_resolve.specs.Clauses.{item_reading}
use Rattle.sa_resolve.specs.Expression.{last}
use Rattle.sa_resolve.proofs.judging.Turns.{looked_all, looked_more}
use Rattle.sa_resolve.proofs.clauses.Reader.group.Goals as goal

pub loop-item-preserved : goal.loop-item-preserved
loop-item-preserved c = λ tables tree slots knows.
    let looks = c.in_ok-item.ensures tables tree slots last knows (c.grouped-scope.ensures.sees tables tree slots knows) c.grouped-scope.ensures.sight in
    looked_more (λ (one : GroupTree). item_reading tables tree slots last one.value) c.args.group.now c.loop-item.item-index c.item-item.result
    c.loop-item-test.true c.item-item.is c.loop-item.looked.items _ c.in_ok-item.field-0 (c.loop-item.invariant tables tree slots knows) looks.looked_is c.in_ok-push.ensures.items

pub returns : goal.returns
returns c = λ tables tree slots knows.
    looked_all (λ (one : GroupTree). item_reading tables tree slots last one.value) c.args.group.now c.loop-item.item-index c.loop-item-test.false
    c.loop-item.looked.items (c.loop-item.invariant tables tree slots knows)
