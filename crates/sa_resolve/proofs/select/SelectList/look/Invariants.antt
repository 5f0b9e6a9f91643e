use Rattle.std.proofs.Common.{◌≡◌, List, [], ◌++◌, take}
use Rattle.sa_table.specs.Table.{Table}
use Rattle.sa_resolve.specs.Expression.{Scope}
use Rattle.sa_resolve.specs.Selected.{selected}
use Rattle.sa_resolve.specs.inner.Listing.{IsSelectList, aggregates_of}
use Rattle.sa_resolve.specs.inner.Names.{Sees}
use Rattle.sa_resolve.proofs.select.SelectList.look.Given as goal

abbrev pub invariant-loop-item : goal.invariant-loop-item
invariant-loop-item l =
    (tables : List Table) (seen : Scope) → Sees tables seen [] l.scope
    → IsSelectList tables seen l.scope.sight.now (take l.item-index l.items) l.list
    × (l.aggregates.items ≡ l.fn.aggregates.items ++ aggregates_of
    (selected tables seen (take l.item-index l.items)))
