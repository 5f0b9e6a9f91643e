use Rattle.std.proofs.Common.{◌∙◌, ◌<◌, ap, sym, subst, option_map}
use Rattle.std.specs.List.{slice_get}
use Rattle.sa_resolve.specs.Selected.{Selected, selected}
use Rattle.sa_resolve.specs.inner.Gist.{gist_of}
use Rattle.sa_resolve.specs.inner.Listing.{AreParts}
use Rattle.sa_resolve.proofs.list.Listing.{found_here, found_behind}
use Rattle.sa_resolve.proofs.list.Parts.{part_there, none_left}
use Rattle.sa_resolve.proofs.select.SelectList.facts_at.Goals as goal

pub returns-then-left-size : goal.returns-then-left-size
returns-then-left-size c = λ tables seen trees is.
    let sight = c.args.scope.now.sight.now in
    let parts = c.deref-part-items.result.now in
    let are = subst (λ parts. AreParts tables seen sight 0 parts trees) (sym c.deref-part-items.ensures.value)
    is.parts in
    let at = part_there tables seen sight 0 parts trees are c.loop-part.part-index c.part-item.result
    c.loop-part-test.true c.part-item.is in
    let few = subst (λ n. c.loop-part.left < n) c.size-size.ensures c.if-left-size.true in
    c.facts_at.ensures tables seen _ at.tree at.part_is few
    ∙ ap (option_map (λ (one : Selected). gist_of one.item)) (sym (c.loop-part.invariant tables seen trees is
    ∙ found_here tables seen sight parts trees are c.loop-part.part-index c.loop-part.left c.part-item.result
    at.tree at.left at.part_is.chosen few))

pub loop-part-preserved : goal.loop-part-preserved
loop-part-preserved c = λ tables seen trees is.
    let sight = c.args.scope.now.sight.now in
    let parts = c.deref-part-items.result.now in
    let are = subst (λ parts. AreParts tables seen sight 0 parts trees) (sym c.deref-part-items.ensures.value)
    is.parts in
    let at = part_there tables seen sight 0 parts trees are c.loop-part.part-index c.part-item.result
    c.loop-part-test.true c.part-item.is in
    c.loop-part.invariant tables seen trees is
    ∙ found_behind tables seen sight trees c.loop-part.part-index c.loop-part.left c.size-size.result
    c.part-item.result at.tree at.left at.part_is.chosen
    c.size-size.ensures c.if-left-size.false

pub returns : goal.returns
returns c = λ tables seen trees is.
    let sight = c.args.scope.now.sight.now in
    let parts = c.deref-part-items.result.now in
    let are = subst (λ parts. AreParts tables seen sight 0 parts trees) (sym c.deref-part-items.ensures.value)
    is.parts in
    let none = none_left tables seen sight 0 parts trees are c.loop-part.part-index c.loop-part-test.false in
    sym (ap (option_map (λ (one : Selected). gist_of one.item)) (c.loop-part.invariant tables seen trees is
    ∙ ap (λ trees. slice_get (selected tables seen trees) c.loop-part.left) none))
