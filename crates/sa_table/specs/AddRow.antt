-- Which faults a row has, in the order in which they are told, and what is kept of it.
use Rattle.std.specs.Prelude.{ℕ, ℤ, pos, negsuc, List, [], ◌∷◌, ◌++◌, map, length, Bool, true, false, ◌||◌, ◌&&◌, not, ◌==◌, nat_lt, nat_le, int_le, Option, Some, None}
use Rattle.std.specs.List.{flat_map, list_any, enumerate_from, filter, zip, position}
use Rattle.std.specs.Cmp.Lexicographic.{pointwise}
use Rattle.std.specs.Ordering.{is_eq}
use Rattle.std.specs.Str.{chars}
use Rattle.sa_value.specs.declared.value.Value.{Value}
use Rattle.sa_value.specs.declared.value.Value.TheVariants.{Null, Int, Big, Text}
use Rattle.sa_value.specs.Compare.{order_of}
use Rattle.sa_table.specs.declared.def.ColumnDef.{ColumnDef}
use Rattle.sa_table.specs.declared.def.ColumnKind.{ColumnKind}
use Rattle.sa_table.specs.declared.def.ColumnKind.TheVariants as kinds
use Rattle.sa_table.specs.declared.def.KeyDef.{KeyDef}
use Rattle.sa_table.specs.declared.fault.RowFault.{RowFault}
use Rattle.sa_table.specs.declared.fault.RowFault.TheVariants.{RowFull, Arity, NullNotAllowed, TypeMismatch, OutOfRange, TooLong, DuplicateKey}
use Rattle.sa_table.specs.Table.{Table, is_unique, key_tuple}
use Rattle.sa_table.specs.Create.{told}

-- the ends of INT and of BIGINT
abbrev pub least_number : ColumnKind → ℤ
least_number kinds.Int = negsuc 2147483647
least_number kinds.BigInt = negsuc 9223372036854775807
least_number (kinds.VarChar characters) = pos 0

abbrev pub greatest_number : ColumnKind → ℤ
greatest_number kinds.Int = pos 2147483647
greatest_number kinds.BigInt = pos 9223372036854775807
greatest_number (kinds.VarChar characters) = pos 0

-- the faults of a number in a column of this kind
abbrev pub number_faults : ℕ → ColumnKind → ℤ → List RowFault
number_faults column (kinds.VarChar characters) number = TypeMismatch column ∷ []
number_faults column kind number =
    told (not (int_le (least_number kind) number && int_le number (greatest_number kind)))
    (OutOfRange column)

-- The faults of a text. It has at most 255 bytes, and at most as many characters as its column says.
abbrev pub text_faults : ℕ → ColumnKind → List ℕ → List RowFault
text_faults column (kinds.VarChar characters) text =
    told (nat_lt 255 (length text) || nat_lt characters (length (chars text))) (TooLong column)
text_faults column kind text = TypeMismatch column ∷ []

-- the faults of a value in a column, of which there is one at most
abbrev pub value_faults : ℕ → ColumnDef → Value → List RowFault
value_faults column def Null = told def.not_null (NullNotAllowed column)
value_faults column def (Int number) = number_faults column def.kind number
value_faults column def (Big number) = number_faults column def.kind number
value_faults column def (Text text) = text_faults column def.kind text

-- the faults of a row's values, column by column
abbrev pub column_faults : List ColumnDef → List Value → List RowFault
column_faults columns row =
    flat_map (λ numbered. value_faults numbered.0 numbered.1.0 numbered.1.1)
    (enumerate_from 0 (zip columns row))

abbrev pub is_null : Value → Bool
is_null Null = true
is_null (Int number) = false
is_null (Big number) = false
is_null (Text text) = false

-- whether two tuples are equal, part by part
abbrev pub same_tuple : List Value → List Value → Bool
same_tuple = pointwise (λ a b. is_eq (order_of a b))

-- whether a row stands in the way of another in a unique key: their tuples are equal and without NULL
abbrev pub collides : KeyDef → List Value → List Value → Bool
collides key row other = not (list_any is_null (key_tuple key.parts row))
    && same_tuple (key_tuple key.parts row) (key_tuple key.parts other)

abbrev pub told_row : Option ℕ → List RowFault
told_row None = []
told_row (Some row) = DuplicateKey row ∷ []

-- the faults of a row in the unique keys, key by key: each names the first row that stands in its way
abbrev pub key_faults : List KeyDef → List (List Value) → List Value → List RowFault
key_faults keys rows row =
    flat_map (λ key. told_row (position (collides key row) rows)) (filter is_unique keys)

-- the faults of a row, in their order
abbrev pub row_faults : Table → List Value → List RowFault
row_faults table row =
    told (nat_le 1000000 (length table.rows)) RowFull
    ++ told (not (length row == length table.def.columns)) Arity
    ++ column_faults table.def.columns row
    ++ key_faults table.def.keys table.rows row

-- What is kept of a value: a number as an `Int`, however wide it came.
abbrev pub kept_value : Value → Value
kept_value Null = Null
kept_value (Int number) = Int number
kept_value (Big number) = Int number
kept_value (Text text) = Text text

abbrev pub with_row : Table → List Value → Table
with_row table row = record table { rows = table.rows ++ map kept_value row ∷ [] }
