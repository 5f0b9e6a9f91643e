use Rattle.std.proofs.Common.{◌∙◌, [], ap, map, option_map, refl, subst, sym}
use Rattle.sa_resolve.specs.Resolved.{query_item}
use Rattle.sa_resolve.specs.Selected.{selected}
use Rattle.sa_resolve.specs.inner.Building.{IsAnswered, slots_at}
use Rattle.sa_resolve.specs.inner.Listing.{AreParts}
use Rattle.sa_resolve.proofs.list.Items.{items_put}
use Rattle.sa_resolve.proofs.list.Parts.{all_taken, part_there}
use Rattle.sa_resolve.proofs.query.items.Goals as goal

pub loop-part-preserved : goal.loop-part-preserved
loop-part-preserved c = λ tables seen trees sees slots is.
    let sight = c.args.rows.now.sight.now in
    let are = subst (λ parts. AreParts tables seen sight 0 parts trees) (sym c.deref-part-items.ensures.value)
    is.parts in
    let at = part_there tables seen sight 0 c.deref-part-items.result.now trees are c.loop-part.part-index
    c.part-item.result c.loop-part-test.true c.part-item.is in
    let last : IsAnswered seen [] (option_map (λ held. held.now) c.as_ref.result) [] =
    record { slots_are = slots ∙ ap (option_map slots_at) (sym c.as_ref.ensures.value); items_are = refl } in
    items_put tables seen sight trees c.loop-part.part-index at.tree c.loop-part.items.items
    c.put_part.new.items.items at.taken
    (c.loop-part.invariant tables seen trees sees slots is)
    (c.in_ok-put_part.ensures tables seen _ at.tree sees last at.part_is)

pub returns : goal.returns
returns c = λ tables seen trees sees slots is.
    let sight = c.args.rows.now.sight.now in
    let are = subst (λ parts. AreParts tables seen sight 0 parts trees) (sym c.deref-part-items.ensures.value)
    is.parts in
    c.loop-part.invariant tables seen trees sees slots is
    ∙ ap (λ trees. map query_item (selected tables seen trees))
    (all_taken tables seen sight 0 c.deref-part-items.result.now trees are c.loop-part.part-index
    c.loop-part-test.false)
