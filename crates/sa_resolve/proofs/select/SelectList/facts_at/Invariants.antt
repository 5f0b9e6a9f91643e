use Rattle.std.proofs.Common.{◌≡◌, List, drop}
use Rattle.std.specs.List.{slice_get}
use Rattle.sa_ast.specs.declared.select.ItemTree.{ItemTree}
use Rattle.sa_table.specs.Table.{Table}
use Rattle.sa_resolve.specs.Expression.{Scope}
use Rattle.sa_resolve.specs.Selected.{selected}
use Rattle.sa_resolve.specs.inner.Listing.{IsSelectList}
use Rattle.sa_resolve.proofs.select.SelectList.facts_at.Given as goal

abbrev pub invariant-loop-part : goal.invariant-loop-part
invariant-loop-part l =
    (tables : List Table) (seen : Scope) (trees : List ItemTree)
    → IsSelectList tables seen l.scope.sight.now trees l.self
    → slice_get (selected tables seen trees) l.number ≡ slice_get
    (selected tables seen (drop l.part-index trees)) l.left
