-- When a tree is well-typed, and when cells meet the kinds that it is well-typed with.
use Rattle.std.specs.Prelude.{◌≤ℤ◌, ⊤, Bool, true, false, ◌&&◌}
use Rattle.std.specs.List.{list_all}
use Rattle.sa_value.specs.declared.value.Value.{Value}
use Rattle.sa_value.specs.declared.value.Value.TheVariants.{Null, Int, Big, Text}
use Rattle.sa_cond.specs.declared.cells.CellKind.{CellKind}
use Rattle.sa_cond.specs.declared.cells.CellKind.TheVariants as cells
use Rattle.sa_cond.specs.declared.cond.Cond.{Cond, Cond-F, fold-Cond}
use Rattle.sa_cond.specs.Interval.{CellKinds, ExprKind, number, sum, text, null, faulty, expr_kind}

-- whether a kind is one of a value
abbrev pub is_proper : ExprKind → Bool
is_proper (number interval) = true
is_proper sum = true
is_proper text = true
is_proper null = true
is_proper faulty = false

-- whether values of two kinds can be compared: two numbers, two texts, or one that is a literal NULL
abbrev pub can_compare : ExprKind → ExprKind → Bool
can_compare faulty right = false
can_compare left faulty = false
can_compare text (number interval) = false
can_compare text sum = false
can_compare (number interval) text = false
can_compare sum text = false
can_compare left right = true

-- One node, with whether each condition below is well-typed in its place.
abbrev pub node_typed : CellKinds → Cond-F Bool → Bool
node_typed kinds (Cond-F.Known truth) = true
node_typed kinds (Cond-F.Compare op left right) =
    can_compare (expr_kind kinds left) (expr_kind kinds right)
node_typed kinds (Cond-F.IsNull x) = is_proper (expr_kind kinds x)
node_typed kinds (Cond-F.NotNull x) = is_proper (expr_kind kinds x)
node_typed kinds (Cond-F.Between value low high) =
    can_compare (expr_kind kinds value) (expr_kind kinds low)
    && can_compare (expr_kind kinds value) (expr_kind kinds high)
node_typed kinds (Cond-F.Among value list) =
    is_proper (expr_kind kinds value)
    && list_all (λ member. can_compare (expr_kind kinds value) (expr_kind kinds member)) list
node_typed kinds (Cond-F.And members) = list_all (λ typed. typed) members
node_typed kinds (Cond-F.Or members) = list_all (λ typed. typed) members
node_typed kinds (Cond-F.Not x) = x

-- Whether a condition is well-typed: each comparison in it is of two numbers, of two texts or has a
-- literal NULL, and each arithmetic expression in it has a static interval.
abbrev pub is_well_typed : CellKinds → Cond → Bool
is_well_typed kinds = fold-Cond Bool (node_typed kinds)

-- A value meets the kind of its cell. NULL meets each.
abbrev pub MeetsKind : CellKind → Value → Type 0
MeetsKind (cells.Number least greatest) Null = ⊤
MeetsKind (cells.Number least greatest) (Int value) = (least ≤ℤ value) × (value ≤ℤ greatest)
MeetsKind (cells.Number least greatest) (Big value) = ⊥
MeetsKind (cells.Number least greatest) (Text value) = ⊥
MeetsKind cells.Sum Null = ⊤
MeetsKind cells.Sum (Int value) = ⊤
MeetsKind cells.Sum (Big value) = ⊤
MeetsKind cells.Sum (Text value) = ⊥
MeetsKind cells.Text Null = ⊤
MeetsKind cells.Text (Int value) = ⊥
MeetsKind cells.Text (Big value) = ⊥
MeetsKind cells.Text (Text value) = ⊤
