use Rattle.std.proofs.Common.{◌≡◌, List, take, subst, arith}
use Rattle.std.proofs.lemmas.List.{take_all}
use Rattle.sa_ast.specs.declared.select.TableTree.{TableTree}
use Rattle.sa_resolve.specs.inner.Sighted.{HasTables}
use Rattle.sa_resolve.proofs.names.Sights.{IsSight-all}
use Rattle.sa_resolve.proofs.sight.Sight.new.Goals as goal

pub returns : goal.returns
returns c =
    let all : take c.loop-tree.tree-index c.args.from.now ≡ c.args.from.now = take_all c.loop-tree.tree-index c.args.from.now (omega arith) in
    IsSight-all c.args.tables.now c.args.from.now c.loop-tree.sight
    (subst (λ (from : List TableTree). HasTables c.args.tables.now from c.loop-tree.sight) all c.loop-tree.invariant)
