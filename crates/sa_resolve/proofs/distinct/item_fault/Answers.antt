use Rattle.std.proofs.Common.{sym, ◌∙◌}
use Rattle.sa_resolve.specs.inner.Least.{fault_in}
use Rattle.sa_resolve.proofs.judging.Distincts.{distinct_own, distinct_other}
use Rattle.sa_resolve.proofs.judging.Ones.{some_map}
use Rattle.sa_resolve.proofs.distinct.item_fault.Goals as goal

pub returns-then-is_some : goal.returns-then-is_some
returns-then-is_some c = λ clauses tables scope item slots sees last are item_is looked.
    distinct_own clauses _ c.args.tree.now item _ _ (c.own_fault.ensures clauses item slots looked)
    (some_map fault_in c.own_fault.result ∙ sym c.is_some.ensures ∙ c.if-is_some.true) c.told.ensures

pub returns : goal.returns
returns c = λ clauses tables scope item slots sees last are item_is looked.
    distinct_other clauses _ c.args.tree.now item _ _ (c.own_fault.ensures clauses item slots looked) c.in_ok-is_other.is_other
    (some_map fault_in c.own_fault.result ∙ sym c.is_some.ensures ∙ c.if-is_some.false)
    (c.in_ok-is_other.ensures clauses tables scope item sees last are item_is) c.told-2.ensures
