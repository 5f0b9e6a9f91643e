use Rattle.std.proofs.Common.{◌≡◌, List, map, take}
use Rattle.sa_ast.specs.declared.select.OrderTree.{OrderTree}
use Rattle.sa_table.specs.Table.{Table}
use Rattle.sa_resolve.specs.Expression.{Scope as Seen}
use Rattle.sa_resolve.specs.Resolved.{order_key}
use Rattle.sa_resolve.specs.Selected.{Selected}
use Rattle.sa_resolve.specs.inner.Building.{IsLast, placed}
use Rattle.sa_resolve.specs.inner.Names.{Sees}
use Rattle.sa_resolve.proofs.build.Builder.keys.Given as goal

abbrev pub invariant-loop-tree : goal.invariant-loop-tree
invariant-loop-tree l = (tables : List Table) (scope : Seen) (listed : List Selected)
    → Sees tables scope listed l.self.scope → IsLast scope listed l.self.stage
    → l.keys.items ≡ map (λ (tree : OrderTree). order_key tree (placed tables scope listed tree.value)) (take l.tree-index l.trees)
