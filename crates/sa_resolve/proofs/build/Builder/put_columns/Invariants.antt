use Rattle.std.proofs.Common.{◌≡◌, ℕ, List, [], ◌++◌, map, take}
use Rattle.sa_table.specs.Table.{Table}
use Rattle.sa_resolve.specs.Expression.{Scope}
use Rattle.sa_resolve.specs.inner.Building.{IsLast}
use Rattle.sa_resolve.specs.inner.Listing.{star_item}
use Rattle.sa_resolve.proofs.build.Builder.put_columns.Given as goal

abbrev pub invariant-loop-column : goal.invariant-loop-column
invariant-loop-column l =
    (tables : List Table) (seen : Scope) (place : ℕ) → IsLast seen [] l.self.stage
    → l.items.items ≡ l.fn.items.items ++ map (star_item tables seen l.self.scope.sight.now place)
    (take l.column-index l.column-items)
