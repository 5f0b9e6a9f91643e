-- What the columns and slots of a tree stand for.
use Rattle.std.specs.Prelude.{ℕ}
use Rattle.sa_value.specs.declared.value.Value.{Value}

-- A choice of one row for each table, or a group: the value of each column, by its table's position
-- and its number, and of each slot.
pub record Choice : Type 0 where
  pub cell : (table column : ℕ) → Value
  pub slot : (number : ℕ) → Value
