-- The values of a key's columns, as an index keeps them where they are numbers: column by column, in
-- its own order.
use Rattle.std.specs.Prelude.{◌≡◌, ℕ, ℤ, pos, ◌<◌, ◌≤◌, ⊤, List, [], ◌∷◌, length, map, Bool, true, false, if◌then◌else◌, slice_index_or}
use Rattle.std.specs.List.{list_any}
use Rattle.sa_value.specs.declared.value.Value.{Value}
use Rattle.sa_value.specs.declared.value.Value.TheVariants.{Null, Int, Big, Text}
use Rattle.sa_key.specs.declared.cut.Cut.{Cut}
use Rattle.sa_key.specs.Order.{is_before}
use Rattle.sa_table.specs.Table.{Table, cell_at}
use Rattle.sa_table.specs.AddRow.{is_null}

-- The value is NULL, or a number as tables keep it.
abbrev pub IsNumber : Value → Type 0
IsNumber Null = ⊤
IsNumber (Int number) = ⊤
IsNumber (Big number) = ⊥
IsNumber (Text text) = ⊥

-- All rows have numbers in this column, or NULL.
pub record HoldsNumbers (tables : List Table) (table part : ℕ) : Type 0 where
  pub each : (row : ℕ) → IsNumber (cell_at tables table row part)

-- They have in each of these.
pub record AreNumbers (tables : List Table) (table : ℕ) (parts : List ℕ) : Type 0 where
  pub each : (k : ℕ) → k < length parts → HoldsNumbers tables table (slice_index_or parts k 0)

-- the number, or 0 at NULL
abbrev pub number_in : Value → ℤ
number_in Null = pos 0
number_in (Int number) = number
number_in (Big number) = pos 0
number_in (Text text) = pos 0

-- which values are NULL: no marks where none is
abbrev pub marks_of : List Value → List Bool
marks_of values = if list_any is_null values then map is_null values else []

-- NULL, or a number
abbrev pub marked_value : Bool → ℤ → Value
marked_value true number = Null
marked_value false number = Int number

-- numbers, of which some are marked as NULL; those behind the last mark aren't
abbrev pub marked : List ℤ → List Bool → List Value
marked [] nulls = []
marked (number ∷ numbers) [] = Int number ∷ marked numbers []
marked (number ∷ numbers) (null ∷ nulls) = marked_value null number ∷ marked numbers nulls

-- what rows have in a column
abbrev pub column_of : List Table → (table : ℕ) → (rows : List ℕ) → (part : ℕ) → List Value
column_of tables table rows part = map (λ row. cell_at tables table row part) rows

-- what rows have in several columns, column by column
abbrev pub columns_of : List Table → (table : ℕ) → (rows parts : List ℕ) → List (List Value)
columns_of tables table rows parts = map (column_of tables table rows) parts

-- Where there are as many columns as parts, they are what the rows have in these.
pub record AreKept (tables : List Table) (table : ℕ) (parts rows : List ℕ) (columns : List (List Value)) : Type 0 where
  pub are : length columns ≡ length parts → columns ≡ columns_of tables table rows parts

-- what columns have at a position
abbrev pub tuple_in : List (List Value) → ℕ → List Value
tuple_in columns position = map (λ column. slice_index_or column position Null) columns

-- whether that lies before a cut
abbrev pub is_before_in : List (List Value) → Cut → ℕ → Bool
is_before_in columns cut position = is_before (tuple_in columns position) cut

-- The first so many positions are parted by a cut: those before it stand in front.
pub record IsParted (columns : List (List Value)) (positions : ℕ) (cut : Cut) : Type 0 where
  pub each : (i j : ℕ) → i ≤ j → j < positions
      → is_before_in columns cut j ≡ true → is_before_in columns cut i ≡ true

-- All positions below the low one lie before the cut, and of the first so many none from the high one on.
pub record LiesBetween (columns : List (List Value)) (positions : ℕ) (cut : Cut) (low high : ℕ) : Type 0 where
  pub rise : low ≤ high
  pub within : high ≤ positions
  pub before : (i : ℕ) → i < low → is_before_in columns cut i ≡ true
  pub behind : (i : ℕ) → high ≤ i → i < positions → is_before_in columns cut i ≡ false
