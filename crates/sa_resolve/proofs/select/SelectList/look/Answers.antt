use Rattle.std.proofs.Common.{◌≡◌, [], ◌∷◌, ◌++◌, take, subst}
use Rattle.std.proofs.lemmas.List.{take_all}
use Rattle.sa_ast.specs.declared.select.ItemTree.{ItemTree}
use Rattle.sa_resolve.specs.Selected.{items_at, selected}
use Rattle.sa_resolve.specs.inner.Listing.{IsSelectList, aggregates_of}
use Rattle.sa_resolve.proofs.list.Listing.{lists_more, aggregates_more}
use Rattle.sa_resolve.proofs.select.SelectList.look.Goals as goal

pub loop-item-preserved : goal.loop-item-preserved
loop-item-preserved c = λ tables seen sees.
    let sight = c.args.scope.now.sight.now in
    let items = c.args.items.now in
    let i = c.loop-item.item-index in
    let d = c.item-item.result in
    let so_far = c.loop-item.invariant tables seen sees in
    let more = c.in_ok-put_item.ensures tables seen (take i items) sees so_far.0 in (
      lists_more tables seen sight items i d c.put_item.new.self c.loop-item-test.true
          (subst (λ one. IsSelectList tables seen sight (take i items ++ one ∷ []) c.put_item.new.self)
          c.item-item.is more.0),
      aggregates_more tables seen sight items i d c.args.aggregates.now.items c.loop-item.aggregates.items
          c.put_item.new.aggregates.items c.loop-item-test.true
          so_far.1 (subst (λ (one : ItemTree). c.put_item.new.aggregates.items ≡ c.loop-item.aggregates.items
          ++ aggregates_of (items_at tables seen one.place one.item)) c.item-item.is more.1),
    )

pub returns : goal.returns
returns c = λ tables seen sees.
    subst (λ trees. IsSelectList tables seen c.args.scope.now.sight.now trees c.loop-item.list
    × (c.loop-item.aggregates.items ≡ c.args.aggregates.now.items
    ++ aggregates_of (selected tables seen trees)))
    (take_all c.loop-item.item-index c.args.items.now c.loop-item-test.false)
    (c.loop-item.invariant tables seen sees)
