-- Which rows a run gives.
use Rattle.std.specs.Prelude.{ℕ, List, [], ◌∷◌, take}
use Rattle.std.specs.List.{flat_map}
use Rattle.sa_value.specs.declared.value.Value.{Value}
use Rattle.sa_plan.specs.declared.plan.Plan.{Plan}
use Rattle.sa_meaning.specs.Data.{RunData}
use Rattle.sa_meaning.specs.Items.{RunItem, open_level, read_row, emit_row, items}

-- An emit gives its row, and any other item gives none.
abbrev pub rows_from : RunItem → List (List Value)
rows_from (open_level level) = []
rows_from (read_row level passed) = []
rows_from (emit_row row) = row ∷ []

-- the rows that a run keeps after so many items
unfoldable pub kept : Plan → RunData → ℕ → List (List Value)
kept plan tables steps = flat_map rows_from (take steps (items plan tables))

-- the rows of the whole run
unfoldable pub output : Plan → RunData → List (List Value)
output plan tables = flat_map rows_from (items plan tables)
