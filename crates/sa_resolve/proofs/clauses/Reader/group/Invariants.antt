use Rattle.std.proofs.Common.{List, Option, map, take}
use Rattle.sa_ast.specs.declared.select.GroupTree.{GroupTree}
use Rattle.sa_ast.specs.declared.select.SelectTree.{SelectTree}
use Rattle.sa_table.specs.Table.{Table}
use Rattle.sa_resolve.specs.Clauses.{item_reading}
use Rattle.sa_resolve.specs.Expression.{last}
use Rattle.sa_resolve.specs.Node.{Slots}
use Rattle.sa_resolve.specs.inner.Knowing.{AreLooked, Knows}
use Rattle.sa_resolve.proofs.clauses.Reader.group.Given as goal

abbrev pub invariant-loop-item : goal.invariant-loop-item
invariant-loop-item l = (tables : List Table) (tree : SelectTree) (slots : Option Slots) → Knows tables tree slots l.self
    → AreLooked l.looked.items (map (λ (one : GroupTree). item_reading tables tree slots last one.value) (take l.item-index l.group))
