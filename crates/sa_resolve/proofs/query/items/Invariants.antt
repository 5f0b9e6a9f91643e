use Rattle.std.proofs.Common.{◌≡◌, List, [], map, option_map, take}
use Rattle.sa_ast.specs.declared.select.ItemTree.{ItemTree}
use Rattle.sa_table.specs.Table.{Table}
use Rattle.sa_resolve.specs.Expression.{Scope}
use Rattle.sa_resolve.specs.Resolved.{query_item}
use Rattle.sa_resolve.specs.Selected.{selected}
use Rattle.sa_resolve.specs.inner.Building.{slots_at}
use Rattle.sa_resolve.specs.inner.Listing.{IsSelectList}
use Rattle.sa_resolve.specs.inner.Names.{Sees}
use Rattle.sa_resolve.proofs.query.items.Given as goal

abbrev pub invariant-loop-part : goal.invariant-loop-part
invariant-loop-part l =
    (tables : List Table) (seen : Scope) (trees : List ItemTree) → Sees tables seen [] l.rows
    → seen.slots ≡ option_map slots_at l.slots → IsSelectList tables seen l.rows.sight.now trees l.list
    → l.items.items ≡ map query_item (selected tables seen (take l.part-index trees))
