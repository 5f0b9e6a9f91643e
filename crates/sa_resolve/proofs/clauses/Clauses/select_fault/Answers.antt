use Rattle.std.proofs.Common.{◌∙◌, ap, sym, subst, map}
use Rattle.std.specs.List.{flat_map}
use Rattle.sa_ast.specs.declared.select.ItemTree.{ItemTree}
use Rattle.sa_query.specs.declared.refusal.ResolveKind.TheVariants.{TooManyItems}
use Rattle.sa_resolve.specs.Clauses.{clauses_with, select_scope}
use Rattle.sa_resolve.specs.Fault.{least}
use Rattle.sa_resolve.specs.Faults.{own_faults, too_many}
use Rattle.sa_resolve.specs.Selected.{Selected, selected, star_faults}
use Rattle.sa_resolve.specs.inner.Least.{fault_of, sooner}
use Rattle.sa_resolve.specs.inner.Listing.{AreParts}
use Rattle.sa_resolve.proofs.list.Faults.{least-three}
use Rattle.sa_resolve.proofs.list.Judging.{judged_more}
use Rattle.sa_resolve.proofs.list.Parts.{all_taken, part_there}
use Rattle.sa_resolve.proofs.clauses.Clauses.select_fault.Goals as goal

pub loop-part-preserved : goal.loop-part-preserved
loop-part-preserved c = λ tables tree found sight known slots columns.
    let scope = select_scope tables tree found in
    let clauses = clauses_with tables tree found in
    let are = subst (λ parts. AreParts tables scope sight 0 parts tree.items)
    (sym c.deref-part-items.ensures.value) known.select.parts in
    let at = part_there tables scope sight 0 c.deref-part-items.result.now tree.items are
    c.loop-part.part-index c.part-item.result c.loop-part-test.true c.part-item.is in
    judged_more tables scope sight clauses tree.items c.loop-part.part-index at.tree
    (fault_of c.args.self.now.select.now.fault) (fault_of c.loop-part.fault)
    (fault_of c.part_fault.result) (fault_of c.sooner-fault.result) at.taken
    (c.loop-part.invariant tables tree found sight known slots columns)
    (c.part_fault.ensures clauses tables scope sight _ at.tree slots columns at.part_is)
    c.sooner-fault.ensures

pub returns : goal.returns
returns c = λ tables tree found sight known slots columns.
    let scope = select_scope tables tree found in
    let clauses = clauses_with tables tree found in
    let items = selected tables scope tree.items in
    let own = flat_map (λ (one : Selected). own_faults clauses one.item) items in
    let are = subst (λ parts. AreParts tables scope sight 0 parts tree.items)
    (sym c.deref-part-items.ensures.value) known.select.parts in
    c.loop-part.invariant tables tree found sight known slots columns
    ∙ ap (λ trees. sooner (fault_of c.args.self.now.select.now.fault)
    (least (flat_map (λ (one : Selected). own_faults clauses one.item) (selected tables scope trees))))
    (all_taken tables scope sight 0 c.deref-part-items.result.now tree.items are c.loop-part.part-index
    c.loop-part-test.false)
    ∙ ap (λ fault. sooner fault (least own)) known.select.fault
    ∙ least-three (flat_map (λ (tree : ItemTree). star_faults tables scope tree.item) tree.items) own
    (too_many TooManyItems 64 (map (λ (one : Selected). one.place) items))
