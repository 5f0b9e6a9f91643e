use Rattle.std.proofs.Common.{refl}
use Rattle.sa_resolve.proofs.judging.Ones.{group_one}
use Rattle.sa_resolve.proofs.judgement.group_item_fault.Goals as goal

pub returns : goal.returns
returns c = λ clauses item looked.
    group_one item _ _ looked.gist refl clauses c.args.tree.now _ _ _ _ _ _ c.args.one.now.facts.column c.is_none-is_other.result
    c.value_fault.ensures c.aggregate_fault.ensures refl c.is_none-is_other.ensures c.told-other.ensures
    c.sooner-own.ensures c.sooner.ensures c.sooner-2.ensures
