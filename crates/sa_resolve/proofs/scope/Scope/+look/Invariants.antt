use Rattle.std.proofs.Common.{◌≡◌, List, ◌∷◌, map, take}
use Rattle.std.specs.List.{list_any}
use Rattle.sa_table.specs.Table.{Table}
use Rattle.sa_resolve.specs.Expression.{Scope, reading}
use Rattle.sa_resolve.specs.NodeFaults.{clashes, no_condition, no_value}
use Rattle.sa_resolve.specs.Reading.{Reading}
use Rattle.sa_resolve.specs.Selected.{Selected}
use Rattle.sa_resolve.specs.inner.Gist.{gist_at, gist_of, parts_at, parts_of_list}
use Rattle.sa_resolve.specs.inner.Names.{Sees}
use Rattle.sa_resolve.specs.inner.Walking.{HaveMentioned}
use Rattle.sa_resolve.proofs.scope.Scope.+look.Given as goal

abbrev pub invariant-look_at_members-loop-member : goal.invariant-look_at_members-loop-member
invariant-look_at_members-loop-member l =
    (tables : List Table) (scope : Scope) (listed : List Selected) → Sees tables scope listed l.self
    → (parts_at l.parts ≡ parts_of_list no_condition
    (map (reading tables scope) (take l.member-index l.members)))
    × HaveMentioned l.initial.mentions l.mentions (map (reading tables scope) (take l.member-index l.members))

abbrev pub invariant-look_at_list-loop-member : goal.invariant-look_at_list-loop-member
invariant-look_at_list-loop-member l =
    (tables : List Table) (scope : Scope) (listed : List Selected) (one : Reading)
    → Sees tables scope listed l.self
    → gist_at l.x ≡ gist_of one
    → (parts_at l.parts ≡ parts_of_list no_value (one ∷ map (reading tables scope)
    (take l.member-index l.list)))
    × (l.clashes ≡ list_any (clashes one) (map (reading tables scope) (take l.member-index l.list)))
    × HaveMentioned l.initial.mentions l.mentions (map (reading tables scope) (take l.member-index l.list))
