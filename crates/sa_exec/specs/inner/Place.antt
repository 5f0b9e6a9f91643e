-- What a run of one level has left to do at its place, and what its next item is.
use Rattle.std.specs.Prelude.{ℕ, ◌+◌, ◌-◌, ◌<◌, ◌≤◌, ⊤, Bool, List, [], ◌∷◌, length, slice_index_or, if◌then◌else◌}
use Rattle.std.specs.List.{flat_map, range_with_len}
use Rattle.sa_count.specs.declared.counters.Counters.{Counters}
use Rattle.sa_value.specs.declared.value.Value.{Value}
use Rattle.sa_query.specs.declared.item.Item.{Item}
use Rattle.sa_table.specs.Table.{row_count}
use Rattle.sa_plan.specs.declared.access.Access.TheVariants.{All}
use Rattle.sa_plan.specs.declared.plan.Level.{Level}
use Rattle.sa_plan.specs.declared.plan.Plan.{Plan}
use Rattle.sa_meaning.specs.Data.{RunData}
use Rattle.sa_meaning.specs.Items.{RunItem, open_level, read_row, emit_row, passes, selected, with_row, row_items}
use Rattle.sa_exec.specs.declared.level.Place.{Place}
use Rattle.sa_exec.specs.declared.level.Place.TheVariants.{Open, Read, Emit}
use Rattle.sa_exec.specs.declared.level.LevelState.{LevelState}
use Rattle.sa_exec.specs.Step.{most_rows}

-- what stands for a level that isn't there
abbrev pub no_level : Level
no_level = record { position = 0; table = 0; alias = []; access = All; conditions = []; estimate = 0 }

-- the level of a plan of one level
abbrev pub only_level : Plan → Level
only_level plan = slice_index_or plan.levels 0 no_level

-- the items of one row
abbrev pub one_row : RunData → List Item → Level → ℕ → List RunItem
one_row tables select level row =
    row_items 0 (passes tables level.conditions (with_row level [] row))
    (emit_row (selected tables select (with_row level [] row)) ∷ [])

-- the items of this row and of those behind it
abbrev pub rows_left : RunData → List Item → Level → ℕ → List RunItem
rows_left tables select level row =
    flat_map (one_row tables select level) (range_with_len row (row_count tables level.table - row))

-- the items that are left
abbrev pub items_left : RunData → List Item → Level → Place → List RunItem
items_left tables select level Open = open_level 0 ∷ rows_left tables select level 0
items_left tables select level (Read row) = rows_left tables select level row
items_left tables select level (Emit row) =
    emit_row (selected tables select (with_row level [] row)) ∷ rows_left tables select level (row + 1)

-- the first of them
abbrev pub item_at : RunData → List Item → Level → Place → RunItem
item_at tables select level Open = open_level 0
item_at tables select level (Read row) =
    read_row 0 (passes tables level.conditions (with_row level [] row))
item_at tables select level (Emit row) = emit_row (selected tables select (with_row level [] row))

abbrev pub next_item : RunData → Plan → Place → RunItem
next_item tables plan = item_at tables plan.select (only_level plan)

-- where a run is behind a row that it read
abbrev pub place_after_read : ℕ → Bool → Place
place_after_read row passed = if passed then Emit row else Read (row + 1)

-- where it is behind the next item
abbrev pub place_after : RunData → Level → Place → Place
place_after tables level Open = Read 0
place_after tables level (Read row) =
    place_after_read row (passes tables level.conditions (with_row level [] row))
place_after tables level (Emit row) = Read (row + 1)

-- what it has counted there
abbrev pub counters_after : RunData → Level → Place → Counters → Counters
counters_after tables level Open counters = record counters { loops = counters.loops + 1 }
counters_after tables level (Read row) counters = record counters {
  rows = counters.rows + 1;
  passed = counters.passed + (if passes tables level.conditions (with_row level [] row) then 1 else 0);
}
counters_after tables level (Emit row) counters = counters

abbrev pub state_after : RunData → Level → LevelState → LevelState
state_after tables level state = record state {
  place = place_after tables level state.place;
  counters = counters_after tables level state.place state.counters;
}

-- The next item emits a row.
abbrev pub IsEmit : Place → Type 0
IsEmit Open = ⊥
IsEmit (Read row) = ⊥
IsEmit (Emit row) = ⊤

-- The next item reads no row.
abbrev pub IsNoRead : Place → Type 0
IsNoRead Open = ⊤
IsNoRead (Read row) = ⊥
IsNoRead (Emit row) = ⊤

-- The next item gives a row for which these rows leave no room.
abbrev pub IsFull : Place → List (List Value) → Type 0
IsFull Open rows = ⊥
IsFull (Read row) rows = ⊥
IsFull (Emit row) rows = most_rows ≤ length rows

-- A row that is to be read or emitted is there, or all rows are done.
abbrev pub IsPlaced : ℕ → Place → Type 0
IsPlaced count Open = ⊤
IsPlaced count (Read row) = row ≤ count
IsPlaced count (Emit row) = row < count

-- An item is left.
abbrev pub HasNext : ℕ → Place → Type 0
HasNext count Open = ⊤
HasNext count (Read row) = row < count
HasNext count (Emit row) = row < count
