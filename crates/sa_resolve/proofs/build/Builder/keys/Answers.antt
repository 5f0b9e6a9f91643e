use Rattle.std.proofs.Common.{◌∙◌}
use Rattle.sa_ast.specs.declared.select.OrderTree.{OrderTree}
use Rattle.sa_resolve.specs.Resolved.{order_key}
use Rattle.sa_resolve.specs.inner.Building.{placed}
use Rattle.sa_resolve.proofs.judging.Uses.{all_made, key_is, push_more}
use Rattle.sa_resolve.proofs.build.Builder.keys.Goals as goal

pub loop-tree-preserved : goal.loop-tree-preserved
loop-tree-preserved c = λ tables scope listed sees last.
    c.in_ok-push.ensures.items
    ∙ push_more (λ (tree : OrderTree). order_key tree (placed tables scope listed tree.value)) c.args.trees.now c.loop-tree.tree-index c.tree-item.result _ _
    c.loop-tree-test.true c.tree-item.is (c.loop-tree.invariant tables scope listed sees last)
    (key_is c.tree-item.result _ (placed tables scope listed c.tree-item.result.value) (c.in_ok-ordered.ensures tables scope listed sees last))

pub returns : goal.returns
returns c = λ tables scope listed sees last.
    all_made (λ (tree : OrderTree). order_key tree (placed tables scope listed tree.value)) c.args.trees.now c.loop-tree.tree-index _
    c.loop-tree-test.false (c.loop-tree.invariant tables scope listed sees last)
