use Rattle.std.proofs.Common.{◌∙◌, ap}
use Rattle.sa_resolve.specs.inner.Least.{fault_of}
use Rattle.sa_resolve.specs.inner.Looking.{loose_at}
use Rattle.sa_resolve.proofs.list.Judging.{own_is}
use Rattle.sa_resolve.proofs.judgement.own_fault.Goals as goal

pub returns : goal.returns
returns c = λ clauses item slots is.
    c.sooner.ensures
    ∙ own_is clauses c.args.one.now item (fault_of c.sooner-own.result) (fault_of c.value_fault.result)
    (fault_of c.loose_fault.result) is
    c.value_fault.ensures c.sooner-own.ensures (c.loose_fault.ensures clauses item slots
    (ap loose_at c.deref.ensures.value ∙ is.loose))
