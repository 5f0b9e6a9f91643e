use Rattle.std.proofs.Common.{◌≡◌, List, map, take}
use Rattle.sa_table.specs.Table.{Table}
use Rattle.sa_resolve.specs.Expression.{Scope, reading}
use Rattle.sa_resolve.specs.Reading.{Reading}
use Rattle.sa_resolve.specs.Selected.{Selected}
use Rattle.sa_resolve.specs.inner.Building.{IsLast}
use Rattle.sa_resolve.specs.inner.Names.{Sees}
use Rattle.sa_resolve.proofs.build.Builder.exprs.Given as goal

abbrev pub invariant-loop-member : goal.invariant-loop-member
invariant-loop-member l =
    (tables : List Table) (scope : Scope) (listed : List Selected)
    → Sees tables scope listed l.self.scope → IsLast scope listed l.self.stage
    → l.exprs.items ≡ map (λ (one : Reading). one.expr)
    (map (reading tables scope) (take l.member-index l.list))
