use Rattle.std.proofs.Common.{◌≡◌, ◌<◌, ◌≤◌, List, length, get_or, map, sym, ap, subst, ◌∙◌}
use Rattle.sa_ast.specs.declared.select.OrderTree.{OrderTree}
use Rattle.sa_resolve.specs.declared.look.Looked.{Looked}
use Rattle.sa_resolve.specs.Clauses.{clauses_with, item_reading}
use Rattle.sa_resolve.specs.Expression.{first}
use Rattle.sa_resolve.specs.Faults.{own_faults}
use Rattle.sa_resolve.proofs.LeastLemmas.{sooner-none}
use Rattle.sa_resolve.proofs.judging.Keyed.{order_told}
use Rattle.sa_resolve.proofs.judging.Lookeds.{looked_at, looked_length, fault_turn}
use Rattle.sa_resolve.proofs.clauses.Clauses.order_fault.Goals as goal

pub loop-one-init : goal.loop-one-init
loop-one-init c = λ clauses ones slots are. c.many_keys-fault.ensures ∙ sym (sooner-none _)

pub loop-one-preserved : goal.loop-one-preserved
loop-one-preserved c = λ clauses ones slots are.
    let at = looked_at c.args.self.now.order.items ones c.loop-one.one-index c.one-item.result are
    (subst (λ (items : List Looked). c.loop-one.one-index < length items) c.deref-one-items.ensures.value c.loop-one-test.true)
    (subst (λ (items : List Looked). c.one-item.result ≡ get_or items c.loop-one.one-index c.one-item.result) c.deref-one-items.ensures.value c.one-item.is) in
    fault_turn (own_faults clauses) ones c.loop-one.one-index at.0 _ _ _ _ at.1 (c.loop-one.invariant clauses ones slots are)
    (c.own_fault.ensures clauses at.0 slots at.2) c.sooner-fault.ensures

pub returns : goal.returns
returns c = λ tables tree found sight known slots trees.
    let clauses = clauses_with tables tree found in
    order_told clauses (λ (one : OrderTree). item_reading tables tree found first one.value) c.args.trees.now c.loop-one.one-index _
    (ap (λ (trees : List OrderTree). map (λ (one : OrderTree). item_reading tables tree found first one.value) trees) (sym trees))
    (subst (λ n. n ≤ c.loop-one.one-index) (looked_length c.args.self.now.order.items clauses.order known.order)
    (subst (λ (items : List Looked). length items ≤ c.loop-one.one-index) c.deref-one-items.ensures.value c.loop-one-test.false))
    (c.loop-one.invariant clauses clauses.order slots known.order)
