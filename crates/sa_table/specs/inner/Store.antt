-- The rows that columns stand for, and how they take one more.
use Rattle.std.specs.Prelude.{◌≡◌, ℕ, ◌<◌, List, [], ◌∷◌, ◌++◌, map, length, All, slice_index_or, vec_len}
use Rattle.std.specs.List.{range_with_len, zip}
use Rattle.sa_value.specs.declared.value.Value.{Value}
use Rattle.sa_table.specs.declared.def.ColumnDef.{ColumnDef}
use Rattle.sa_table.specs.declared.def.ColumnKind.{ColumnKind}
use Rattle.sa_table.specs.declared.column.Column.{Column}
use Rattle.sa_table.specs.declared.store.Store.{Store}
use Rattle.sa_table.specs.Table.{value_in}
use Rattle.sa_table.specs.inner.Column.{values_in, held_in, CanTake, SameColumn, HoldsKind}

-- what each column has in a row
abbrev pub row_in : List Column → ℕ → List Value
row_in columns row = map (λ column. value_in (values_in column) row) columns

abbrev pub rows_in : Store → List (List Value)
rows_in store = map (row_in store.columns.items) (range_with_len 0 store.count)

-- Each column has a value for each row.
abbrev pub Fills : Store → Type 0
Fills store = All (λ column. length (values_in column) ≡ store.count) store.columns.items

-- what columns hold of a row
abbrev pub held_row : List Column → List Value → List Value
held_row columns row = map (λ pair. held_in pair.0 pair.1) (zip columns row)

-- There is room for a row.
pub record TakesRow (store : Store) (row : List Value) : Type 0 where
  pub wide : length row ≡ vec_len store.columns
  pub each : (k : ℕ) (column : Column) → k < vec_len store.columns
      → CanTake (slice_index_or store.columns.items k column) (value_in row k)

-- The rows are as they were, whatever room there is.
pub record SameStore (old new : Store) : Type 0 where
  pub count : new.count ≡ old.count
  pub wide : vec_len new.columns ≡ vec_len old.columns
  pub each : (k : ℕ) (column : Column) → k < vec_len old.columns
      → SameColumn (slice_index_or old.columns.items k column)
      (slice_index_or new.columns.items k column)

-- Each column still holds what it could hold.
abbrev pub SameKinds : Store → Store → Type 0
SameKinds old new = (k : ℕ) (column : Column) (kind : ColumnKind) → k < vec_len old.columns
    → HoldsKind kind (slice_index_or old.columns.items k column)
    → HoldsKind kind (slice_index_or new.columns.items k column)

-- Each column holds values of its kind.
pub record HoldKinds (defs : List ColumnDef) (columns : List Column) : Type 0 where
  pub wide : length columns ≡ length defs
  pub each : (k : ℕ) (def : ColumnDef) (column : Column) → k < length defs
      → HoldsKind (slice_index_or defs k def).kind (slice_index_or columns k column)

-- A column has a value more, and holds what it could hold.
pub record TakesValue (old new : Column) (value : Value) : Type 0 where
  pub values : values_in new ≡ values_in old ++ held_in old value ∷ []
  pub kinds : (kind : ColumnKind) → HoldsKind kind old → HoldsKind kind new
