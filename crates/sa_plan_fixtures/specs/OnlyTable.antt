-- Which columns the conditions of a plan of one table can name.
use Rattle.std.specs.Prelude.{◌≡◌, ℕ, ◌<◌, List, length, All}
use Rattle.sa_cond.specs.Cited.{Name, IsThere}
use Rattle.sa_plan.specs.declared.plan.Level.{Level}
use Rattle.sa_table.specs.Table.{Table, column_count}

-- The table is there, and has this column in this position.
pub record IsColumn (tables : List Table) (level : Level) (position column : ℕ) : Type 0 where
  pub there : level.table < length tables
  pub position_is : position ≡ level.position
  pub within : column < column_count tables level.table

-- All these names are columns of the table.
abbrev pub Sees : List Table → Level → List Name → Type 0
Sees tables level names = All (IsThere (IsColumn tables level) (λ number. ⊥)) names
