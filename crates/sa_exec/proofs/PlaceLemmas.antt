-- What is left at a place is its next item, and what is left behind it.
use Rattle.std.proofs.Common.{◌≡◌, ℕ, suc, ◌+◌, ◌-◌, ◌<◌, ◌≤◌, Bool, true, false, List, [], ◌∷◌, ◌++◌, length, refl, ap, ◌∙◌, add-zero, if◌then◌else◌, inl, inr, ◌⊎◌, arith}
use Rattle.std.proofs.lemmas.Bool.{cases_lt}
use Rattle.std.proofs.lemmas.List.{append-nil, length-append}
use Rattle.sa_count.specs.declared.counters.Counters.{Counters}
use Rattle.sa_value.specs.declared.value.Value.{Value}
use Rattle.sa_query.specs.declared.item.Item.{Item}
use Rattle.sa_table.specs.Table.{row_count}
use Rattle.sa_plan.specs.declared.plan.Level.{Level}
use Rattle.sa_meaning.specs.Data.{RunData}
use Rattle.sa_meaning.specs.Items.{read_row, emit_row, passes, selected, with_row, row_items}
use Rattle.sa_meaning.specs.Output.{rows_from}
use Rattle.sa_meaning.specs.Progress.{Emits}
use Rattle.sa_meaning.proofs.CountsLemmas.{counted}
use Rattle.sa_exec.specs.declared.level.Place.{Place}
use Rattle.sa_exec.specs.declared.level.Place.TheVariants.{Open, Read, Emit}
use Rattle.sa_exec.specs.Step.{most_rows}
use Rattle.sa_exec.specs.inner.Place.{one_row, rows_left, items_left, item_at, place_after_read, place_after, counters_after, IsEmit, IsFull, IsPlaced, HasNext}

-- A row that is there is the first that is left.
rows_left-more : (tables : RunData) (select : List Item) (level : Level) (row : ℕ) → row < row_count tables level.table
    → rows_left tables select level row ≡ one_row tables select level row ++ rows_left tables select level (row + 1)
rows_left-more tables select level row there =
    let more : row_count tables level.table - row ≡ suc (row_count tables level.table - (row + 1)) = omega arith in
    rw more refl

-- Behind the last row nothing is left.
rows_left-none : (tables : RunData) (select : List Item) (level : Level) (row : ℕ) → row_count tables level.table ≤ row → rows_left tables select level row ≡ []
rows_left-none tables select level row past =
    let none : row_count tables level.table - row ≡ 0 = omega arith in rw none refl

read-next : (tables : RunData) (select : List Item) (level : Level) (row : ℕ) (passed : Bool)
    → row_items 0 passed (emit_row (selected tables select (with_row level [] row)) ∷ []) ++ rows_left tables select level (row + 1)
    ≡ read_row 0 passed ∷ items_left tables select level (place_after_read row passed)
read-next tables select level row true = refl
read-next tables select level row false = refl

pub items_left-next : (tables : RunData) (select : List Item) (level : Level) (place : Place) → HasNext (row_count tables level.table) place
    → items_left tables select level place ≡ item_at tables select level place ∷ items_left tables select level (place_after tables level place)
items_left-next tables select level Open next = refl
items_left-next tables select level (Read row) next =
    rows_left-more tables select level row next
    ∙ read-next tables select level row (passes tables level.conditions (with_row level [] row))
items_left-next tables select level (Emit row) next = refl

-- Where no row is left to be read, nothing is.
pub items_left-none : (tables : RunData) (select : List Item) (level : Level) → items_left tables select level (Read (row_count tables level.table)) ≡ []
items_left-none tables select level = rows_left-none tables select level (row_count tables level.table) (omega arith)

-- A place is done, or an item is left.
pub place-cases : (count : ℕ) (place : Place) → IsPlaced count place → (place ≡ Read count) ⊎ HasNext count place
place-cases count Open placed = inr tt
place-cases count (Read row) placed =
    elim (cases_lt row count) [ inl less ↦ inr less | inr not_less ↦ inl (ap Read (omega arith)) ]
place-cases count (Emit row) placed = inr placed

read-counted : (counters : Counters) (passed : Bool)
    → counted 0 counters (read_row 0 passed) ≡ record counters { rows = counters.rows + 1; passed = counters.passed + (if passed then 1 else 0) }
read-counted counters true = rw (add-zero counters.loops) refl
read-counted counters false = rw (add-zero counters.loops) refl

-- What the state counts is what the item counts.
pub counters_after-is : (tables : RunData) (select : List Item) (level : Level) (place : Place) (counters : Counters)
    → counted 0 counters (item_at tables select level place) ≡ counters_after tables level place counters
counters_after-is tables select level Open counters = rw (add-zero counters.rows, add-zero counters.passed) refl
counters_after-is tables select level (Read row) counters = read-counted counters (passes tables level.conditions (with_row level [] row))
counters_after-is tables select level (Emit row) counters = rw (add-zero counters.loops, add-zero counters.rows, add-zero counters.passed) refl

-- The next place is one of the table's.
read-placed : (count row : ℕ) (passed : Bool) → row < count → IsPlaced count (place_after_read row passed)
read-placed count row true there = there
read-placed count row false there = omega arith

pub placed-next : (count : ℕ) (tables : RunData) (level : Level) (place : Place) → HasNext count place → IsPlaced count (place_after tables level place)
placed-next count tables level Open next = omega arith
placed-next count tables level (Read row) next = read-placed count row (passes tables level.conditions (with_row level [] row)) next
placed-next count tables level (Emit row) next = omega arith

-- An emit emits.
pub emits-at : (tables : RunData) (select : List Item) (level : Level) (place : Place) → IsEmit place → Emits (item_at tables select level place)
emits-at tables select level Open emit = absurd emit
emits-at tables select level (Read row) emit = absurd emit
emits-at tables select level (Emit row) emit = tt

-- An item that leaves no room for its row is an emit, and the other way round.
pub full-over : (tables : RunData) (select : List Item) (level : Level) (place : Place) (rows : List (List Value)) → IsFull place rows
    → most_rows < length (rows ++ rows_from (item_at tables select level place))
full-over tables select level Open rows full = absurd full
full-over tables select level (Read row) rows full = absurd full
full-over tables select level (Emit row) rows full = omega (arith, length-append rows (selected tables select (with_row level [] row) ∷ []))

pub over-full : (tables : RunData) (select : List Item) (level : Level) (place : Place) (rows : List (List Value)) → length rows ≤ most_rows
    → most_rows < length (rows ++ rows_from (item_at tables select level place)) → IsFull place rows
over-full tables select level Open rows few over = absurd (omega (arith, ap length (append-nil rows)))
over-full tables select level (Read row) rows few over = absurd (omega (arith, ap length (append-nil rows)))
over-full tables select level (Emit row) rows few over = omega (arith, length-append rows (selected tables select (with_row level [] row) ∷ []))
