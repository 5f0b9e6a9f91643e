-- When a query fits tables: what it names is there, and of a kind for what is done with it.
use Rattle.std.specs.Prelude.{◌≡◌, ◌≢◌, ℕ, ◌+◌, ◌<◌, ◌≤◌, ⊤, Bool, true, false, List, length, All, Any, slice_get, Option, Some, None, IsSomeAnd}
use Rattle.sa_ast.specs.declared.expression.AggregateCall.{AggregateCall}
use Rattle.sa_ast.specs.declared.expression.AggregateCall.TheVariants.{CountRows, Sum}
use Rattle.sa_cond.specs.declared.cond.Cond.{Cond}
use Rattle.sa_cond.specs.declared.expr.Expr.{Expr}
use Rattle.sa_cond.specs.Cited.{Name, column, slot, expr_names, cond_names}
use Rattle.sa_cond.specs.Interval.{expr_kind, static_interval}
use Rattle.sa_cond.specs.Typed.{is_proper, is_well_typed}
use Rattle.sa_table.specs.Table.{Table, column_count}
use Rattle.sa_query.specs.declared.group.Aggregate.{Aggregate}
use Rattle.sa_query.specs.declared.group.Column.{Column}
use Rattle.sa_query.specs.declared.item.Item.{Item}
use Rattle.sa_query.specs.declared.order.OrderKey.{OrderKey}
use Rattle.sa_query.specs.declared.query.Query.{Query}
use Rattle.sa_query.specs.declared.query.TableUse.{TableUse}
use Rattle.sa_query.specs.Kinds.{query_kinds}
use Rattle.sa_query.specs.Meaning.{does_group}

-- The table in this position of FROM has a column of this number.
abbrev pub HasColumn : List Table → List TableUse → (position number : ℕ) → Type 0
HasColumn tables uses position number =
    IsSomeAnd (slice_get uses position) (λ used. number < column_count tables used.table)

module _ (tables : List Table) (query : Query) where
  -- What is over rows names columns that are there, and what is over groups names slots.
  abbrev pub IsInSight : (grouped : Bool) → Name → Type 0
  IsInSight false (column position number) = HasColumn tables query.tables position number
  IsInSight false (slot number) = ⊥
  IsInSight true (column position number) = ⊥
  IsInSight true (slot number) = number < length query.group + length query.aggregates

  -- An expression names what is in its sight alone, and its arithmetic has static intervals.
  pub record IsFitExpr (grouped : Bool) (expr : Expr) : Type 0 where
    pub names : All (IsInSight grouped) (expr_names expr)
    pub typed : is_proper (expr_kind (query_kinds tables query) expr) ≡ true

  -- So does a condition, which compares numbers with numbers and texts with texts.
  pub record IsFitCond (grouped : Bool) (cond : Cond) : Type 0 where
    pub names : All (IsInSight grouped) (cond_names cond)
    pub typed : is_well_typed (query_kinds tables query) cond ≡ true

  -- An aggregate but COUNT(*) has an argument over rows, and that of SUM is a number.
  abbrev pub IsFitArgument : AggregateCall → Option Expr → Type 0
  IsFitArgument CountRows None = ⊤
  IsFitArgument CountRows (Some argument) = ⊥
  IsFitArgument call None = ⊥
  IsFitArgument Sum (Some argument) =
      IsFitExpr false argument
      × (static_interval (query_kinds tables query) argument ≢ None)
  IsFitArgument call (Some argument) = IsFitExpr false argument

  -- HAVING stands over groups alone.
  abbrev pub IsFitHaving : Option Cond → Type 0
  IsFitHaving None = ⊤
  IsFitHaving (Some having) = (does_group query ≡ true) × IsFitCond true having

  -- With DISTINCT each ORDER BY value is that of an item of the select list.
  abbrev pub IsSelected : OrderKey → Type 0
  IsSelected key = Any (λ (item : Item). item.value ≡ key.value) query.select

  -- A query has one to eight tables, and all its parts fit.
  pub record IsWellTyped : Type 0 where
    pub least : 1 ≤ length query.tables
    pub most : length query.tables ≤ 8
    pub there : All (λ (used : TableUse). used.table < length tables) query.tables
    pub filter : IsFitCond false query.filter
    pub group : All (λ (one : Column). HasColumn tables query.tables one.table one.column) query.group
    pub aggregates : All (λ (one : Aggregate). IsFitArgument one.call one.argument) query.aggregates
    pub select : All (λ (item : Item). IsFitExpr (does_group query) item.value) query.select
    pub having : IsFitHaving query.having
    pub order : All (λ (key : OrderKey). IsFitExpr (does_group query) key.value) query.order
    pub distinct : query.distinct ≡ true → All IsSelected query.order
