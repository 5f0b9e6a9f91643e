-- What a cursor reads, and which rows it has left; and when an access can be read.
use Rattle.std.specs.Prelude.{ℕ, ◌<◌, ⊤, List, [], length, All}
use Rattle.sa_table.specs.Table.{Table}
use Rattle.sa_plan.specs.declared.access.Access.{Access}
use Rattle.sa_plan.specs.declared.access.Access.TheVariants as accesses
use Rattle.sa_plan.specs.declared.access.RefPart.{RefPart}
use Rattle.sa_plan.specs.declared.access.RefPart.TheVariants.{Literal, Column}
use Rattle.sa_plan.specs.declared.plan.Level.{Level}
use Rattle.sa_plan.specs.Lawful.{IsLawfulAccess}

-- The access of a level, over these tables, with the rows that are left of it.
pub record Reading : Type 0 where
  pub tables : List Table
  pub level : Level
  pub left : List ℕ

-- what an access seeks by
abbrev pub sought_by : Access → List RefPart
sought_by accesses.All = []
sought_by (accesses.Index key) = []
sought_by (accesses.Range key list) = []
sought_by (accesses.Ref key from) = from
sought_by (accesses.EqRef key from) = from
sought_by (accesses.Const key from) = from

-- The column that a part is sought by is there.
abbrev pub IsThere : (has_cell : (position column : ℕ) → Type 0) → RefPart → Type 0
IsThere has_cell (Literal value) = ⊤
IsThere has_cell (Column position column) = has_cell position column

-- The level's access is lawful behind some levels, and the cells that it seeks by are there.
pub record CanRead (tables : List Table) (has_cell : (position column : ℕ) → Type 0)
    (level : Level) : Type 0 where
  pub there : level.table < length tables
  pub before : List Level
  pub lawful : IsLawfulAccess tables before level.table level.access
  pub cells : All (IsThere has_cell) (sought_by level.access)
