use Rattle.std.proofs.Common.{◌≡◌, List, map, take}
use Rattle.sa_table.specs.Table.{Table}
use Rattle.sa_resolve.specs.Expression.{Scope, reading}
use Rattle.sa_resolve.specs.Reading.{Reading}
use Rattle.sa_resolve.specs.Selected.{Selected}
use Rattle.sa_resolve.specs.inner.Building.{IsLast}
use Rattle.sa_resolve.specs.inner.Names.{Sees}
use Rattle.sa_resolve.specs.inner.Walking.{AreValues}
use Rattle.sa_resolve.proofs.build.Builder.+cond.Given as goal

abbrev pub invariant-conds-loop-member : goal.invariant-conds-loop-member
invariant-conds-loop-member l =
    (tables : List Table) (scope : Scope) (listed : List Selected) → AreValues listed
    → Sees tables scope listed l.self.scope → IsLast scope listed l.self.stage
    → l.conds.items ≡ map (λ (one : Reading). one.cond)
    (map (reading tables scope) (take l.member-index l.members))
