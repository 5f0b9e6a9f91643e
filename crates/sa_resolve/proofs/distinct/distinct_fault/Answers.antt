use Rattle.std.proofs.Common.{◌≡◌, ◌≤◌, ℕ, length, take, is_some, None, sym, ap, subst, ◌∙◌, arith}
use Rattle.std.proofs.lemmas.List.{length_push, take_all}
use Rattle.std.proofs.lemmas.Slice.Zip.{zip_turn, zip_end, length-zip}
use Rattle.std.specs.List.{flat_map, zip}
use Rattle.sa_ast.specs.declared.select.OrderTree.{OrderTree}
use Rattle.sa_resolve.specs.Fault.{least}
use Rattle.sa_resolve.specs.Faults.{distinct_faults}
use Rattle.sa_resolve.specs.inner.Building.{placed}
use Rattle.sa_resolve.specs.inner.Least.{fault_of}
use Rattle.sa_resolve.proofs.judging.Lookeds.{looked_at, looked_length, fault_turn}
use Rattle.sa_resolve.proofs.judging.Zips.{zip_at, read_at}
use Rattle.sa_resolve.proofs.distinct.distinct_fault.Goals as goal

pub loop-tree-preserved : goal.loop-tree-preserved
loop-tree-preserved c = λ clauses tables scope slots sees last are order looked.
    let turn = zip_turn c.args.trees.now c.args.order.now c.loop-tree.yielded c.into_iter-tree-iterator.result
    c.loop-tree.tree-iterator c.next.new.self c.next.result (cc) (cc) c.loop-tree.yielded_by (c.in-Some.tree, c.in-Some.one) c.in-Some.is c.next.ensures.steps in
    let at = looked_at c.args.order.now clauses.order (length c.loop-tree.yielded) c.in-Some.one.now looked turn.1 (turn.3 c.in-Some.one.now) in
    subst (λ (n : ℕ). fault_of c.sooner-fault.result
    ≡ least (flat_map (distinct_faults clauses (is_some c.args.items)) (take n (zip c.args.trees.now clauses.order))))
    (sym (length_push c.loop-tree.yielded (c.in-Some.tree, c.in-Some.one)))
    (fault_turn (distinct_faults clauses (is_some c.args.items)) (zip c.args.trees.now clauses.order) (length c.loop-tree.yielded) (c.in-Some.tree.now, at.0) None _ _ _
    (zip_at c.args.trees.now clauses.order (length c.loop-tree.yielded) c.in-Some.tree.now at.0 turn.0 (turn.2 c.in-Some.tree.now) at.1)
    (c.loop-tree.invariant clauses tables scope slots sees last are order looked)
    (c.in_ok-item_fault.ensures clauses tables scope at.0 slots sees last are
    (read_at (λ (tree : OrderTree). placed tables scope clauses.select tree.value) c.args.trees.now clauses.order (length c.loop-tree.yielded) c.in-Some.tree.now at.0
    order turn.0 (turn.2 c.in-Some.tree.now) at.1) at.2)
    c.sooner-fault.ensures)

pub returns : goal.returns
returns c = λ clauses tables scope slots sees last are order looked.
    let count = zip_end c.args.trees.now c.args.order.now c.loop-tree.yielded c.into_iter-tree-iterator.result
    c.loop-tree.tree-iterator c.next.new.self c.next.result (cc) (cc) c.loop-tree.yielded_by c.in-None.is c.next.ensures.steps in
    let same = looked_length c.args.order.now clauses.order looked in
    let pairs = length-zip c.args.trees.now clauses.order in
    let all : length (zip c.args.trees.now clauses.order) ≤ length c.loop-tree.yielded = omega (arith, count, same, pairs) in
    c.loop-tree.invariant clauses tables scope slots sees last are order looked
    ∙ ap (λ pairs. least (flat_map (distinct_faults clauses (is_some c.args.items)) pairs)) (take_all (length c.loop-tree.yielded) (zip c.args.trees.now clauses.order) all)
