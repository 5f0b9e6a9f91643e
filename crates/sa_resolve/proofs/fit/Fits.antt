-- What is known of a reading without faults: what it names, and of which kind it is.
use Rattle.std.proofs.Common.{◌≡◌, ℕ, true, false, List, [], Option, Some, None, is_some}
use Rattle.std.specs.Prelude.{⊤}
use Rattle.std.specs.List.{AllByRecursion, list_any}
use Rattle.sa_cond.specs.declared.cells.CellKind.{CellKind}
use Rattle.sa_cond.specs.declared.cond.Cond.{Cond}
use Rattle.sa_cond.specs.declared.expr.Expr.{Expr}
use Rattle.sa_cond.specs.declared.expr.Expr.TheVariants as expr
use Rattle.sa_cond.specs.Cited.{Name}
use Rattle.sa_cond.specs.Interval.{CellKinds, ExprKind, faulty, kind_of_cell}
use Rattle.sa_cond.specs.Typed.{is_proper}
use Rattle.sa_table.specs.Table.{Table}
use Rattle.sa_query.specs.declared.group.Aggregate.{Aggregate}
use Rattle.sa_query.specs.declared.group.Column.{Column}
use Rattle.sa_query.specs.declared.query.Query.{Query}
use Rattle.sa_query.specs.Kinds.{column_kinds, aggregate_cells, query_kinds}
use Rattle.sa_query.specs.WellTyped.{IsInSight, IsFitArgument}
use Rattle.sa_resolve.specs.Expression.{Scope, Alias, column_kind}
use Rattle.sa_resolve.specs.Node.{Slots, expr_of_column, expr_of_aggregate}
use Rattle.sa_resolve.specs.NodeFaults.{is_condition, is_sum}
use Rattle.sa_resolve.specs.Reading.{Reading, Sort, condition, value}
use Rattle.sa_resolve.specs.Same.{same_aggregate, same_column}
use Rattle.sa_resolve.proofs.fit.Equal.{IsPlainArgument}
use Rattle.sa_resolve.proofs.fit.Names.{IsSeen}
use Rattle.sa_resolve.proofs.fit.Stands.{Stands, Asks}

-- A column has a slot, and so has an aggregate; over rows there are none.
abbrev pub IsGrouped : Option Slots → Column → Type 0
IsGrouped None one = ⊤
IsGrouped (Some slots) one = list_any (same_column one) slots.group ≡ true

abbrev pub IsSlotted : Option Slots → Aggregate → Type 0
IsSlotted None one = ⊥
IsSlotted (Some slots) one =
    (list_any (same_aggregate one) slots.aggregates ≡ true) × IsPlainArgument one.argument

-- All columns and aggregates of a reading have slots.
pub record IsCovered (slots : Option Slots) (loose : List (ℕ × Column))
    (aggregates : List Aggregate) : Type 0 where
  pub grouped : AllByRecursion (λ (placed : ℕ × Column). IsGrouped slots placed.1) loose
  pub slotted : AllByRecursion (IsSlotted slots) aggregates

abbrev pub kind_at : Sort → ExprKind
kind_at condition = faulty
kind_at (value kind) = kind

module _ (tables : List Table) (query : Query) where
  -- the kinds of columns, and these of slots
  abbrev pub with_slots : (ℕ → CellKind) → CellKinds
  with_slots slot = record { column = (column_kinds tables query.tables).column; slot = slot }

  abbrev pub IsFitting : Aggregate → Type 0
  IsFitting one = IsFitArgument tables query one.call one.argument

  module _ (slots : Option Slots) where
    abbrev pub InScope : Name → Type 0
    InScope = IsInSight tables query (is_some slots)

    -- What a reading stands for fits.
    pub record FitsAs (sort : Sort) (row : Expr) (expr : Expr) (cond : Cond) (calls : List ℕ)
        (aggregates : List Aggregate)
        (loose : List (ℕ × Column)) : Type 0 where
      pub is_proper : is_condition sort ≡ false → is_proper (kind_at sort) ≡ true
      pub unsummed : calls ≡ [] → is_sum (kind_at sort) ≡ false
      pub over_rows : calls ≡ [] → is_condition sort ≡ false → (slot : ℕ → CellKind)
          → Stands (IsInSight tables query false) (with_slots slot) (kind_at sort) row
      pub in_query : IsCovered slots loose aggregates → is_condition sort ≡ false
          → Stands InScope (query_kinds tables query) (kind_at sort) expr
      pub asks : IsCovered slots loose aggregates → Asks InScope (query_kinds tables query) cond
      pub fitting : AllByRecursion IsFitting aggregates

    abbrev pub Fits : Reading → Type 0
    Fits one = FitsAs one.sort one.row one.expr one.cond one.calls one.aggregates one.loose

    -- An item of the select list fits, and all that it names has slots.
    pub record IsSound (one : Reading) : Type 0 where
      pub fits : Fits one
      pub covered : IsCovered slots one.loose one.aggregates

  -- What is in sight is there, and stands for what it is.
  pub record Knows (scope : Scope) : Type 0 where
    pub at_row : (seen : Column) → IsSeen tables scope.sources seen → (slot : ℕ → CellKind)
        → Stands (IsInSight tables query false) (with_slots slot)
        (column_kind tables scope.sources seen) (expr.Column seen.table seen.column)
    pub at_column : (seen : Column) → IsSeen tables scope.sources seen → IsGrouped scope.slots seen
        → Stands (InScope scope.slots) (query_kinds tables query)
        (column_kind tables scope.sources seen) (expr_of_column scope.slots seen)
    pub at_aggregate : (one : Aggregate) → IsSlotted scope.slots one
        → Stands (InScope scope.slots) (query_kinds tables query)
        (kind_of_cell (aggregate_cells (column_kinds tables query.tables) one.call one.argument))
        (expr_of_aggregate scope.slots one)
    pub aliases : AllByRecursion (λ (alias : Alias). IsSound scope.slots alias.item) scope.aliases
