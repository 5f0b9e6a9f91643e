use Rattle.std.proofs.Common.{◌≡◌, false, List, sym, ap, subst, ◌∙◌}
use Rattle.sa_ast.specs.declared.select.GroupTree.{GroupTree}
use Rattle.sa_ast.specs.declared.select.OrderTree.{OrderTree}
use Rattle.sa_ast.specs.declared.select.TableTree.{TableTree}
use Rattle.std.specs.Option.{is_some}
use Rattle.sa_resolve.specs.Clauses.{clauses_with}
use Rattle.sa_resolve.specs.Fault.{least}
use Rattle.sa_resolve.specs.Faults.{group_faults, order_faults}
use Rattle.sa_resolve.specs.Tables.{from_faults}
use Rattle.sa_resolve.specs.inner.Least.{fault_of, sooner}
use Rattle.sa_resolve.specs.inner.Names.{IsSight}
use Rattle.sa_resolve.proofs.judging.OtherFaults.{fault_by, other-plain, other-distinct}
use Rattle.sa_resolve.proofs.resolver.Known.other_fault.Goals as goal

pub returns-then-not-tree : goal.returns-then-not-tree
returns-then-not-tree c = λ tables found ready items_are.
    let self = c.args.self.now in
    let tree = self.tree.now in
    let clauses = clauses_with tables tree found in
    let sight = self.reader.rows.sight.now in
    c.sooner-fault.ensures
    ∙ fault_by (fault_of c.from_fault-from.result) (fault_of c.filter_fault.result) _ (fault_of c.group_fault-group.result) _
    (fault_of c.having_fault-having.result) (fault_of c.order_fault-order.result) _ c.sooner-first.ensures c.sooner-2.ensures c.sooner.ensures
    ∙ other-plain tables tree clauses (is_some c.args.items) _ _ _ _ _
    (subst (λ (from : List TableTree). fault_of c.from_fault-from.result ≡ least (from_faults tables from)) c.as_slice.ensures
    (c.from_fault-from.ensures tables (subst (λ (from : List TableTree). IsSight tables from sight) (sym c.as_slice.ensures) ready.reader.sight)))
    (c.filter_fault.ensures tables tree found sight ready.clauses_are)
    (subst (λ (trees : List GroupTree). fault_of c.group_fault-group.result ≡ least (group_faults clauses trees)) c.as_slice-2.ensures
    (c.group_fault-group.ensures tables tree found sight ready.clauses_are c.as_slice-2.ensures))
    (c.having_fault-having.ensures tables tree found sight ready.clauses_are (ready.slots_are ∙ sym ready.settled))
    (subst (λ (trees : List OrderTree). fault_of c.order_fault-order.result ≡ least (order_faults clauses false false trees)) c.as_slice-3.ensures
    (c.order_fault-order.ensures tables tree found sight ready.clauses_are (ready.slots_are ∙ sym ready.settled) c.as_slice-3.ensures))
    c.if-not-tree.true

pub returns : goal.returns
returns c = λ tables found ready items_are.
    let self = c.args.self.now in
    let tree = self.tree.now in
    let clauses = clauses_with tables tree found in
    let sight = self.reader.rows.sight.now in
    c.sooner-3.ensures
    ∙ ap (λ first. sooner first (fault_of c.in_ok-distinct_fault.field-0))
    (c.sooner-fault.ensures ∙ fault_by (fault_of c.from_fault-from.result) (fault_of c.filter_fault.result) _ (fault_of c.group_fault-group.result) _
    (fault_of c.having_fault-having.result) (fault_of c.order_fault-order.result) _ c.sooner-first.ensures c.sooner-2.ensures c.sooner.ensures)
    ∙ other-distinct tables tree clauses (is_some c.args.items) _ _ _ _ _
    (subst (λ (from : List TableTree). fault_of c.from_fault-from.result ≡ least (from_faults tables from)) c.as_slice.ensures
    (c.from_fault-from.ensures tables (subst (λ (from : List TableTree). IsSight tables from sight) (sym c.as_slice.ensures) ready.reader.sight)))
    (c.filter_fault.ensures tables tree found sight ready.clauses_are)
    (subst (λ (trees : List GroupTree). fault_of c.group_fault-group.result ≡ least (group_faults clauses trees)) c.as_slice-2.ensures
    (c.group_fault-group.ensures tables tree found sight ready.clauses_are c.as_slice-2.ensures))
    (c.having_fault-having.ensures tables tree found sight ready.clauses_are (ready.slots_are ∙ sym ready.settled))
    (subst (λ (trees : List OrderTree). fault_of c.order_fault-order.result ≡ least (order_faults clauses false false trees)) c.as_slice-3.ensures
    (c.order_fault-order.ensures tables tree found sight ready.clauses_are (ready.slots_are ∙ sym ready.settled) c.as_slice-3.ensures))
    (fault_of c.in_ok-distinct_fault.field-0) c.if-not-tree.false
    (c.in_ok-distinct_fault.ensures tables found ready items_are)
