-- When a plan is lawful for tables: whatever it names is there, in its place and of the right kind.
use Rattle.std.specs.Prelude.{◌≡◌, ◌≢◌, ℕ, ◌<◌, ◌≤◌, ◌==◌, ⊤, true, List, [], ◌∷◌, ◌++◌, length, zip, All, Any, if◌then◌else◌}
use Rattle.sa_cond.specs.declared.cells.CellKind.{CellKind}
use Rattle.sa_cond.specs.declared.cells.CellKind.TheVariants as cells
use Rattle.sa_cond.specs.declared.cond.Cond.{Cond}
use Rattle.sa_cond.specs.declared.expr.Expr.{Expr}
use Rattle.sa_cond.specs.declared.expr.Expr.TheVariants as exprs
use Rattle.sa_cond.specs.Cited.{Name, column, slot, expr_names, cond_names}
use Rattle.sa_cond.specs.Interval.{CellKinds, kind_of_cell, expr_kind}
use Rattle.sa_cond.specs.Typed.{is_proper, is_well_typed, can_compare}
use Rattle.sa_index.specs.Indexed.{IsKeyOf, parts_of}
use Rattle.sa_interval.specs.Canonical.{ArePieces}
use Rattle.sa_key.specs.declared.range.KeyRange.{KeyRange}
use Rattle.sa_query.specs.declared.item.Item.{Item}
use Rattle.sa_query.specs.Kinds.{cells_of}
use Rattle.sa_table.specs.Sound.{column_at}
use Rattle.sa_table.specs.Table.{Table, table_at, column_count}
use Rattle.sa_plan.specs.declared.access.Access.{Access}
use Rattle.sa_plan.specs.declared.access.Access.TheVariants as accesses
use Rattle.sa_plan.specs.declared.access.RefPart.{RefPart}
use Rattle.sa_plan.specs.declared.access.RefPart.TheVariants.{Literal, Column}
use Rattle.sa_plan.specs.declared.plan.Level.{Level}
use Rattle.sa_plan.specs.declared.plan.Plan.{Plan}

-- the kind of a column of the table with this position; what isn't there counts as a text
abbrev pub column_kind : List Table → List Level → (position number : ℕ) → CellKind
column_kind tables [] position number = cells.Text
column_kind tables (level ∷ levels) position number =
    if level.position == position
    then cells_of (column_at (table_at tables level.table).def number).kind
    else column_kind tables levels position number

-- the kinds of the columns that a plan's trees name; without groups no slot is there
abbrev pub kinds_of : List Table → List Level → CellKinds
kinds_of tables levels = record { column = column_kind tables levels; slot = λ number. cells.Text }

-- What a tree names is a column of one of these levels' tables.
abbrev pub IsInSight : List Table → List Level → Name → Type 0
IsInSight tables levels (column position number) =
    Any (λ (level : Level). (level.position ≡ position)
    × (number < column_count tables level.table)) levels
IsInSight tables levels (slot number) = ⊥

-- An expression is well-typed, its arithmetic has static intervals, and it names columns in sight
-- alone.
pub record IsLawfulExpr (tables : List Table) (levels : List Level) (expr : Expr) : Type 0 where
  pub names : All (IsInSight tables levels) (expr_names expr)
  pub typed : is_proper (expr_kind (kinds_of tables levels) expr) ≡ true

-- A condition is all that too.
pub record IsLawfulCond (tables : List Table) (levels : List Level) (cond : Cond) : Type 0 where
  pub names : All (IsInSight tables levels) (cond_names cond)
  pub typed : is_well_typed (kinds_of tables levels) cond ≡ true

-- what a part of a key is sought by, as an expression
abbrev pub expr_of : RefPart → Expr
expr_of (Literal value) = exprs.Literal value
expr_of (Column table number) = exprs.Column table number

-- What a column of a table is sought by can be compared with it, and names columns of the levels
-- before alone.
pub record IsLawfulPart (tables : List Table) (before : List Level) (table : ℕ)
    (sought : ℕ × RefPart) : Type 0 where
  pub names : All (IsInSight tables before) (expr_names (expr_of sought.1))
  pub typed : can_compare
      (kind_of_cell (cells_of (column_at (table_at tables table).def sought.0).kind))
      (expr_kind (kinds_of tables before) (expr_of sought.1)) ≡ true

-- The key is there, and its first parts are sought by these, one of them at least.
pub record AreLawfulParts (tables : List Table) (before : List Level) (table key : ℕ)
    (from : List RefPart) : Type 0 where
  pub there : IsKeyOf tables table key
  pub least : 1 ≤ length from
  pub most : length from ≤ length (parts_of tables table key)
  pub each : All (IsLawfulPart tables before table) (zip (parts_of tables table key) from)

-- A range has no cut longer than a key of so many parts.
abbrev pub IsShort : ℕ → KeyRange → Type 0
IsShort parts range = (length range.from.tuple ≤ parts) × (length range.to.tuple ≤ parts)

-- The key is there, and the ranges are of it, rise and are disjoint.
pub record AreLawfulRanges (tables : List Table) (table key : ℕ) (ranges : List KeyRange)
    : Type 0 where
  pub there : IsKeyOf tables table key
  pub short : All (IsShort (length (parts_of tables table key))) ranges
  pub rising : ArePieces ranges

-- What an access to a table names is there, behind these levels.
abbrev pub IsLawfulAccess : List Table → (before : List Level) → (table : ℕ) → Access → Type 0
IsLawfulAccess tables before table accesses.All = ⊤
IsLawfulAccess tables before table (accesses.Index key) = IsKeyOf tables table key
IsLawfulAccess tables before table (accesses.Range key list) =
    AreLawfulRanges tables table key list.ranges
IsLawfulAccess tables before table (accesses.Ref key from) =
    AreLawfulParts tables before table key from
IsLawfulAccess tables before table (accesses.EqRef key from) =
    AreLawfulParts tables before table key from
IsLawfulAccess tables before table (accesses.Const key from) =
    AreLawfulParts tables before table key from

-- A level's table is there, no level before it has its position, its access is lawful, and its
-- conditions see its table and those before.
pub record IsLawfulLevel (tables : List Table) (before : List Level) (level : Level) : Type 0 where
  pub there : level.table < length tables
  pub own_position : All (λ (earlier : Level). earlier.position ≢ level.position) before
  pub access : IsLawfulAccess tables before level.table level.access
  pub conditions : All (IsLawfulCond tables (before ++ level ∷ [])) level.conditions

-- Each of these levels is lawful behind those before it.
abbrev pub AreLawfulLevels : List Table → (before levels : List Level) → Type 0
AreLawfulLevels tables before [] = Unit {0}
AreLawfulLevels tables before (level ∷ levels) =
    IsLawfulLevel tables before level × AreLawfulLevels tables (before ++ level ∷ []) levels

-- A plan has one to eight levels, each lawful, and its select list sees them all.
pub record IsLawful (tables : List Table) (plan : Plan) : Type 0 where
  pub least : 1 ≤ length plan.levels
  pub most : length plan.levels ≤ 8
  pub levels : AreLawfulLevels tables [] plan.levels
  pub select : All (λ (item : Item). IsLawfulExpr tables plan.levels item.value) plan.select
