use Rattle.std.proofs.Common.{List, Option, map, take}
use Rattle.sa_ast.specs.declared.select.OrderTree.{OrderTree}
use Rattle.sa_ast.specs.declared.select.SelectTree.{SelectTree}
use Rattle.sa_table.specs.Table.{Table}
use Rattle.sa_resolve.specs.Clauses.{item_reading}
use Rattle.sa_resolve.specs.Expression.{first}
use Rattle.sa_resolve.specs.Node.{Slots}
use Rattle.sa_resolve.specs.inner.Judging.{HaveLooked}
use Rattle.sa_resolve.specs.inner.Knowing.{Knows}
use Rattle.sa_resolve.proofs.clauses.Reader.order.Given as goal

abbrev pub invariant-loop-item : goal.invariant-loop-item
invariant-loop-item l = (tables : List Table) (tree : SelectTree) (slots : Option Slots) → Knows tables tree slots l.self
    → HaveLooked l.initial.aggregates.items l.aggregates.items l.looked.items
    (map (λ (one : OrderTree). item_reading tables tree slots first one.value) (take l.item-index l.order))
