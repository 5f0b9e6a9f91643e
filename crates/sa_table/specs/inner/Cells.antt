-- What the lists of a column's cells stand for, and what room they have.
use Rattle.std.specs.Prelude.{◌≡◌, ◌<◌, List, [], ◌∷◌, Bool, if◌then◌else◌, Option, Some, None, vec_len}
use Rattle.std.specs.Bool.{OnTrue}
use Rattle.std.specs.Vec.{vec_capacity}
use Rattle.sa_table.specs.declared.cells.Cells.{Cells}

-- An item, or None where the list of NULLs says so; where that list has ended there are no more NULLs.
abbrev pub cells_of : {T : Type 0} → List Bool → List T → List (Option T)
cells_of nulls [] = []
cells_of [] (item ∷ items) = Some item ∷ cells_of [] items
cells_of (null ∷ nulls) (item ∷ items) = (if null then None else Some item) ∷ cells_of nulls items

abbrev pub cells_in : {T : Type 0} → Cells T → List (Option T)
cells_in cells = cells_of cells.nulls.items cells.items.items

-- There is room for an item, and for a NULL where it is one.
pub record HasRoom {T : Type 0} (cells : Cells T) (is_null : Bool) : Type 0 where
  pub item : vec_len cells.items < vec_capacity cells.items
  pub null : OnTrue is_null (vec_len cells.items < vec_capacity cells.nulls)

-- The lists are as they were, whatever room they have.
pub record SameCells {T : Type 0} (old new : Cells T) : Type 0 where
  pub items : new.items.items ≡ old.items.items
  pub nulls : new.nulls.items ≡ old.nulls.items
