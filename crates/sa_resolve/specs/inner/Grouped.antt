-- What is wrong with columns outside aggregates.
use Rattle.std.specs.Prelude.{ℕ, not, List, [], Option, Some, None}
use Rattle.std.specs.List.{flat_map, list_any}
use Rattle.sa_query.specs.declared.group.Column.{Column}
use Rattle.sa_query.specs.declared.refusal.ResolveKind.TheVariants.{GroupRule}
use Rattle.sa_resolve.specs.Fault.{Fault, told}
use Rattle.sa_resolve.specs.Node.{Slots}
use Rattle.sa_resolve.specs.Same.{same_column}

-- a column that is none of these is told where it stands
abbrev pub loose_among : List Column → List (ℕ × Column) → List Fault
loose_among group loose =
    flat_map (λ placed. told (not (list_any (same_column placed.1) group)) GroupRule placed.0) loose

-- the same, where a query has these slots
abbrev pub loose_by : Option Slots → List (ℕ × Column) → List Fault
loose_by None loose = []
loose_by (Some slots) loose = loose_among slots.group loose
