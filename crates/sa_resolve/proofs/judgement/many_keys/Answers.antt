use Rattle.sa_query.specs.declared.refusal.ResolveKind.TheVariants.{TooManyItems}
use Rattle.sa_ast.specs.declared.select.OrderTree.{OrderTree}
use Rattle.sa_resolve.proofs.judging.Constants.{many_none, many_some}
use Rattle.sa_resolve.proofs.judgement.many_keys.Goals as goal

pub returns-in-None : goal.returns-in-None
returns-in-None c = many_none (λ (tree : OrderTree). tree.place) TooManyItems 8 c.args.trees.now c.in-None.ensures.lookup.3

pub returns-in-Some : goal.returns-in-Some
returns-in-Some c =
    many_some (λ (tree : OrderTree). tree.place) TooManyItems 8 c.args.trees.now c.in-Some.tree.now _
    c.in-Some.ensures.lookup.3.0 c.in-Some.ensures.lookup.1 c.told.ensures
