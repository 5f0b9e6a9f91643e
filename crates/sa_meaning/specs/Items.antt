-- What a run of a plan does, item by item. One item is one row step.
-- Source: MariaDB Knowledge Base, "SELECT" and "JOIN Syntax": WHERE and ON keep the rows for which they are TRUE.
use Rattle.std.specs.Prelude.{ℕ, ◌+◌, Bool, List, [], ◌∷◌, ◌++◌, map, if◌then◌else◌}
use Rattle.std.specs.List.{flat_map, list_all}
use Rattle.sa_value.specs.declared.value.Value.{Value}
use Rattle.sa_cond.specs.declared.cond.Cond.{Cond}
use Rattle.sa_cond.specs.Condition.{holds}
use Rattle.sa_cond.specs.Expression.{expr_value}
use Rattle.sa_query.specs.declared.item.Item.{Item}
use Rattle.sa_query.specs.Choices.{is_true}
use Rattle.sa_plan.specs.declared.plan.Level.{Level}
use Rattle.sa_plan.specs.declared.plan.Plan.{Plan}
use Rattle.sa_plan.specs.Chosen.{Chosen, chosen_cell, choice_of}
use Rattle.sa_plan.specs.Scan.{scan}
use Rattle.sa_meaning.specs.Data.{RunData}

-- A run opens a level, reads a row there, which passed all of the level's conditions or not, or
-- emits a row. Levels are numbered from 0 on.
pub data RunItem : Type 0 where
  open_level : (level : ℕ) → RunItem
  read_row : (level : ℕ) (passed : Bool) → RunItem
  emit_row : (row : List Value) → RunItem

-- whether the rows that are chosen pass all of these conditions
unfoldable pub passes : RunData → List Cond → List Chosen → Bool
passes tables conditions chosen =
    list_all (λ cond. is_true (holds (choice_of tables chosen) cond)) conditions

-- the row that a select list gives for the rows that are chosen
unfoldable pub selected : RunData → List Item → List Chosen → List Value
selected tables select chosen =
    map (λ (item : Item). expr_value (choice_of tables chosen) item.value) select

-- the rows that are chosen, with one more of this level's table
abbrev pub with_row : Level → List Chosen → ℕ → List Chosen
with_row level chosen row =
    chosen ++ record { position = level.position; table = level.table; row = row } ∷ []

-- A row is read, and where it passed, what is inside follows.
abbrev pub row_items : ℕ → Bool → List RunItem → List RunItem
row_items number passed inner = read_row number passed ∷ (if passed then inner else [])

-- The items of these levels, the first of which has this number, for the rows that are chosen
-- before them. A level is opened and its rows are read in order; inside the last level a row is
-- emitted.
abbrev pub level_items : RunData → List Item → ℕ → List Level → List Chosen → List RunItem
level_items tables select number [] chosen = emit_row (selected tables select chosen) ∷ []
level_items tables select number (level ∷ levels) chosen =
    open_level number
    ∷ flat_map
    (λ row. row_items number
    (passes tables level.conditions (with_row level chosen row))
    (level_items tables select (number + 1) levels (with_row level chosen row)))
    (scan level.access tables level.table (chosen_cell tables chosen))

-- The whole run. Proofs of those who drive a run never open it.
unfoldable pub items : Plan → RunData → List RunItem
items plan tables = level_items tables plan.select 0 plan.levels []
