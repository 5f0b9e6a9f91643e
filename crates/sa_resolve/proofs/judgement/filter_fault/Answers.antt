use Rattle.std.proofs.Common.{refl}
use Rattle.sa_resolve.proofs.judging.Ones.{filter_one}
use Rattle.sa_resolve.proofs.judgement.filter_fault.Goals as goal

pub returns : goal.returns
returns c = λ item looked.
    filter_one item _ _ looked.gist refl _ _ _ _ c.condition_fault.ensures c.aggregate_fault.ensures c.sooner-own.ensures c.sooner.ensures
