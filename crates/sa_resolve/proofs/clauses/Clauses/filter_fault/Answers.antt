use Rattle.std.proofs.Common.{◌≡◌, ◌<◌, ◌≤◌, ◌++◌, List, length, get_or, sym, subst, ◌∙◌}
use Rattle.sa_resolve.specs.declared.look.Looked.{Looked}
use Rattle.sa_resolve.specs.Clauses.{clauses_with}
use Rattle.sa_resolve.specs.Faults.{filter_faults}
use Rattle.sa_resolve.proofs.LeastLemmas.{sooner-none}
use Rattle.sa_resolve.proofs.judging.Filters.{filters_told}
use Rattle.sa_resolve.proofs.judging.Lookeds.{looked_at, looked_length, fault_turn}
use Rattle.sa_resolve.proofs.clauses.Clauses.filter_fault.Goals as goal

pub loop-one-init : goal.loop-one-init
loop-one-init c = λ ones are. c.constant_fault-fault.ensures ones are ∙ sym (sooner-none _)

pub loop-one-preserved : goal.loop-one-preserved
loop-one-preserved c = λ ones are.
    let at = looked_at c.args.self.now.filters.items ones c.loop-one.one-index c.one-item.result are
    (subst (λ (items : List Looked). c.loop-one.one-index < length items) c.deref-one-items.ensures.value c.loop-one-test.true)
    (subst (λ (items : List Looked). c.one-item.result ≡ get_or items c.loop-one.one-index c.one-item.result) c.deref-one-items.ensures.value c.one-item.is) in
    fault_turn filter_faults ones c.loop-one.one-index at.0 _ _ _ _ at.1 (c.loop-one.invariant ones are)
    (c.filter_fault.ensures at.0 at.2) c.sooner-fault.ensures

pub returns : goal.returns
returns c = λ tables tree found sight known.
    let clauses = clauses_with tables tree found in
    filters_told clauses c.loop-one.one-index _
    (subst (λ n. n ≤ c.loop-one.one-index) (looked_length c.args.self.now.filters.items (clauses.on ++ clauses.filter) known.filters)
    (subst (λ (items : List Looked). length items ≤ c.loop-one.one-index) c.deref-one-items.ensures.value c.loop-one-test.false))
    (c.loop-one.invariant (clauses.on ++ clauses.filter) known.filters)
