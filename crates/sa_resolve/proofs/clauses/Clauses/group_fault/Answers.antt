use Rattle.std.proofs.Common.{◌≡◌, ◌≤◌, ℕ, length, map, take, sym, subst, ◌∙◌, arith}
use Rattle.std.proofs.lemmas.List.{length_push}
use Rattle.std.proofs.lemmas.Slice.Zip.{zip_turn, zip_end, length-zip}
use Rattle.std.specs.List.{flat_map, zip}
use Rattle.sa_ast.specs.declared.select.GroupTree.{GroupTree}
use Rattle.sa_query.specs.declared.refusal.ResolveKind.TheVariants.{TooManyItems}
use Rattle.sa_resolve.specs.Clauses.{clauses_with}
use Rattle.sa_resolve.specs.Fault.{least}
use Rattle.sa_resolve.specs.Faults.{group_item_faults, too_many}
use Rattle.sa_resolve.specs.inner.Least.{fault_of, sooner}
use Rattle.sa_resolve.proofs.LeastLemmas.{sooner-none}
use Rattle.sa_resolve.proofs.judging.Keyed.{group_told}
use Rattle.sa_resolve.proofs.judging.Lookeds.{looked_at, looked_length, fault_turn}
use Rattle.sa_resolve.proofs.judging.Zips.{zip_at}
use Rattle.sa_resolve.proofs.clauses.Clauses.group_fault.Goals as goal

pub loop-tree-init : goal.loop-tree-init
loop-tree-init c = λ clauses ones are. c.many_groups-fault.ensures ∙ sym (sooner-none _)

pub loop-tree-preserved : goal.loop-tree-preserved
loop-tree-preserved c = λ clauses ones are.
    let turn = zip_turn c.args.trees.now c.args.self.now.group.items c.loop-tree.yielded c.into_iter-tree-iterator.result
    c.loop-tree.tree-iterator c.next.new.self c.next.result (cc) (cc) c.loop-tree.yielded_by (c.in-Some.tree, c.in-Some.one) c.in-Some.is c.next.ensures.steps in
    let at = looked_at c.args.self.now.group.items ones (length c.loop-tree.yielded) c.in-Some.one.now are turn.1 (turn.3 c.in-Some.one.now) in
    subst (λ (n : ℕ). fault_of c.sooner-fault.result
    ≡ sooner (least (too_many TooManyItems 8 (map (λ (tree : GroupTree). tree.place) c.args.trees.now)))
    (least (flat_map (group_item_faults clauses) (take n (zip c.args.trees.now ones)))))
    (sym (length_push c.loop-tree.yielded (c.in-Some.tree, c.in-Some.one)))
    (fault_turn (group_item_faults clauses) (zip c.args.trees.now ones) (length c.loop-tree.yielded) (c.in-Some.tree.now, at.0) _ _ _ _
    (zip_at c.args.trees.now ones (length c.loop-tree.yielded) c.in-Some.tree.now at.0 turn.0 (turn.2 c.in-Some.tree.now) at.1)
    (c.loop-tree.invariant clauses ones are) (c.group_item_fault.ensures clauses at.0 at.2) c.sooner-fault.ensures)

pub returns : goal.returns
returns c = λ tables tree found sight known trees.
    let clauses = clauses_with tables tree found in
    let count = zip_end c.args.trees.now c.args.self.now.group.items c.loop-tree.yielded c.into_iter-tree-iterator.result
    c.loop-tree.tree-iterator c.next.new.self c.next.result (cc) (cc) c.loop-tree.yielded_by c.in-None.is c.next.ensures.steps in
    let same = looked_length c.args.self.now.group.items clauses.group known.group in
    let pairs = length-zip c.args.trees.now clauses.group in
    let all : length (zip c.args.trees.now clauses.group) ≤ length c.loop-tree.yielded = omega (arith, count, same, pairs) in
    group_told clauses c.args.trees.now (length c.loop-tree.yielded) _ all (c.loop-tree.invariant clauses clauses.group known.group)
