use Rattle.std.proofs.Common.{◌≡◌, List, Option, map, is_some, IfOk, sym, ap, subst, ◌∙◌}
use Rattle.std.specs.List.{flat_map, zip}
use Rattle.sa_ast.specs.declared.select.OrderTree.{OrderTree}
use Rattle.sa_resolve.specs.declared.least.Fault.{Fault as Found}
use Rattle.sa_resolve.specs.Clauses.{clauses_with, items, scope_of}
use Rattle.sa_resolve.specs.Expression.{first}
use Rattle.sa_resolve.specs.Fault.{least}
use Rattle.sa_resolve.specs.Faults.{distinct_faults}
use Rattle.sa_resolve.specs.inner.Building.{placed}
use Rattle.sa_resolve.specs.declared.look.Looked.{Looked}
use Rattle.sa_resolve.specs.inner.Knowing.{AreLooked}
use Rattle.sa_resolve.specs.inner.Least.{fault_of}
use Rattle.sa_resolve.proofs.judging.Answered.{answered_when, items_when}
use Rattle.sa_resolve.proofs.judging.Items.{placed_all}
use Rattle.sa_resolve.proofs.resolver.Known.distinct_fault.Goals as goal

pub returns : goal.returns
returns c = λ tables found ready items_are.
    let tree = c.args.self.now.tree.now in
    let clauses = clauses_with tables tree found in
    subst (λ (trees : List OrderTree). IfOk c.distinct_fault.result (λ (fault : Option Found). fault_of fault
    ≡ least (flat_map (distinct_faults clauses (is_some c.args.items)) (zip trees clauses.order)))) c.as_slice-trees.ensures
    (c.distinct_fault.ensures clauses tables (scope_of tables tree found first) (ready.slots_are ∙ sym ready.settled)
    (c.answered.ensures.sees tables tree found ready.reader)
    (answered_when tables tree found c.args.slots.now _ c.args.items _ _ ready.slots_are c.as_ref.ensures.value c.unwrap_or.ensures items_are)
    (items_when tables tree found c.args.items items_are)
    (placed_all tables tree found tree.order
    ∙ ap (λ (trees : List OrderTree). map (λ (one : OrderTree). placed tables (scope_of tables tree found first) (items tables tree found) one.value) trees)
    (sym c.as_slice-trees.ensures))
    (subst (λ (looked : List Looked). AreLooked looked clauses.order) (sym c.deref.ensures.value) ready.clauses_are.order))
