-- The rows that a run has chosen, one of each table so far, and what they hold.
use Rattle.std.specs.Prelude.{ℕ, ◌==◌, List, [], ◌∷◌, if◌then◌else◌}
use Rattle.sa_value.specs.declared.value.Value.{Value}
use Rattle.sa_value.specs.declared.value.Value.TheVariants.{Null}
use Rattle.sa_cond.specs.Choice.{Choice}
use Rattle.sa_table.specs.Table.{Table, cell_at}

-- Of the table with this position in FROM and this number, this row is chosen.
pub record Chosen : Type 0 where
  pub position : ℕ
  pub table : ℕ
  pub row : ℕ

-- the cell of a column of the table with this position; NULL where no row of it is chosen
abbrev pub chosen_cell : List Table → List Chosen → (position column : ℕ) → Value
chosen_cell tables [] position column = Null
chosen_cell tables (one ∷ others) position column =
    if one.position == position then cell_at tables one.table one.row column
    else chosen_cell tables others position column

-- what the columns of expressions stand for; without groups no slot is there
abbrev pub choice_of : List Table → List Chosen → Choice
choice_of tables chosen = record { cell = chosen_cell tables chosen; slot = λ number. Null }
