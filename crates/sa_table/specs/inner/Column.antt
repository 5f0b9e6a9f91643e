-- The values of a column, and how it takes one more.
use Rattle.std.specs.Prelude.{ℕ, ℤ, List, map, ⊤, Option, Some, None, is_none, FitsSigned}
use Rattle.std.specs.Int.{w64}
use Rattle.sa_value.specs.declared.value.Value.{Value}
use Rattle.sa_value.specs.declared.value.Value.TheVariants as value
use Rattle.sa_table.specs.declared.def.ColumnKind.{ColumnKind}
use Rattle.sa_table.specs.declared.def.ColumnKind.TheVariants as kinds
use Rattle.sa_table.specs.declared.column.Column.{Column}
use Rattle.sa_table.specs.declared.column.Column.TheVariants.{Numbers, Texts}
use Rattle.sa_table.specs.inner.Cells.{cells_in, HasRoom, SameCells}

abbrev pub number_value : Option ℤ → Value
number_value None = value.Null
number_value (Some number) = value.Int number

abbrev pub text_value : Option (List ℕ) → Value
text_value None = value.Null
text_value (Some text) = value.Text text

abbrev pub values_in : Column → List Value
values_in (Numbers cells) = map number_value (cells_in cells)
values_in (Texts cells) = map text_value (cells_in cells)

-- A number fits a cell, however wide it came.
abbrev pub IsRanged : Value → Type 0
IsRanged value.Null = ⊤
IsRanged (value.Int number) = ⊤
IsRanged (value.Big number) = FitsSigned w64 number
IsRanged (value.Text text) = ⊤

-- the number that a column of numbers holds of a value
abbrev pub number_in : Value → Option ℤ
number_in value.Null = None
number_in (value.Int number) = Some number
number_in (value.Big number) = Some number
number_in (value.Text text) = None

abbrev pub text_in : Value → Option (List ℕ)
text_in value.Null = None
text_in (value.Int number) = None
text_in (value.Big number) = None
text_in (value.Text text) = Some text

-- what a column holds of a value
abbrev pub held_in : Column → Value → Value
held_in (Numbers cells) value = number_value (number_in value)
held_in (Texts cells) value = text_value (text_in value)

-- The column has room for a value.
abbrev pub CanTake : Column → Value → Type 0
CanTake (Numbers cells) value = HasRoom cells (is_none (number_in value))
CanTake (Texts cells) value = HasRoom cells (is_none (text_in value))

-- The column is as it was, whatever room it has.
abbrev pub SameColumn : Column → Column → Type 0
SameColumn (Numbers old) (Numbers new) = SameCells old new
SameColumn (Numbers old) (Texts new) = ⊥
SameColumn (Texts old) (Numbers new) = ⊥
SameColumn (Texts old) (Texts new) = SameCells old new

-- Numbers stand in columns of numbers, and texts in columns of texts.
abbrev pub HoldsKind : ColumnKind → Column → Type 0
HoldsKind kinds.Int (Numbers cells) = ⊤
HoldsKind kinds.Int (Texts cells) = ⊥
HoldsKind kinds.BigInt (Numbers cells) = ⊤
HoldsKind kinds.BigInt (Texts cells) = ⊥
HoldsKind (kinds.VarChar characters) (Numbers cells) = ⊥
HoldsKind (kinds.VarChar characters) (Texts cells) = ⊤
