-- What a field of a CSV text stands for in a column, and which causes it has to be refused there.
use Rattle.std.specs.Prelude.{ℕ, ℤ, pos, neg_ℤ, List, [], ◌∷◌, ◌++◌, drop, Bool, true, false, not, ◌||◌, bytes_eq, if◌then◌else◌}
use Rattle.std.specs.List.{flat_map}
use Rattle.std.specs.Str.{is_utf8, all_ascii_digits}
use Rattle.std.specs.Str.Parse.{digits_value, starts_with_minus}
use Rattle.sa_value.specs.declared.value.Value.{Value}
use Rattle.sa_value.specs.declared.value.Value.TheVariants.{Null, Int, Text}
use Rattle.sa_table.specs.declared.def.ColumnDef.{ColumnDef}
use Rattle.sa_table.specs.declared.def.ColumnKind.{ColumnKind}
use Rattle.sa_table.specs.declared.def.ColumnKind.TheVariants as kinds
use Rattle.sa_table.specs.declared.fault.RowFault.{RowFault}
use Rattle.sa_table.specs.declared.fault.RowFault.TheVariants as row
use Rattle.sa_table.specs.Create.{told}
use Rattle.sa_table.specs.AddRow.{value_faults}
use Rattle.sa_load.specs.declared.fault.LoadCause.{LoadCause}
use Rattle.sa_load.specs.declared.fault.LoadCause.TheVariants.{RowFull, Arity, NotUtf8, NotNumber, NullNotAllowed, TypeMismatch, OutOfRange, TooLong, DuplicateKey}

-- `\N` is NULL, in quotes too: a record has no quotes any more.
abbrev pub is_null : List ℕ → Bool
is_null field = bytes_eq field (92 ∷ 78 ∷ [])

-- the digits of a number, which a minus may stand before
abbrev pub digits : List ℕ → List ℕ
digits field = if starts_with_minus field then drop 1 field else field

-- one digit or more, and nothing else
abbrev pub are_digits : List ℕ → Bool
are_digits [] = false
are_digits (byte ∷ bytes) = all_ascii_digits (byte ∷ bytes)

-- whether a field is a number: an optional minus and digits
abbrev pub is_number : List ℕ → Bool
is_number field = are_digits (digits field)

-- the number with a sign and a magnitude
abbrev pub signed : Bool → ℕ → ℤ
signed minus magnitude = if minus then neg_ℤ (pos magnitude) else pos magnitude

abbrev pub number_of : List ℕ → ℤ
number_of field = signed (starts_with_minus field) (digits_value 10 (digits field))

-- what a field that isn't NULL stands for: a text, or a number of any size
abbrev pub written_value : ColumnKind → List ℕ → Value
written_value (kinds.VarChar characters) field = Text field
written_value kind field = Int (number_of field)

-- the value of a field in a column of this kind
abbrev pub field_value : ColumnKind → List ℕ → Value
field_value kind field = if is_null field then Null else written_value kind field

-- whether a field has a value in a column of this kind
abbrev pub is_readable : ColumnKind → List ℕ → Bool
is_readable (kinds.VarChar characters) field = true
is_readable kind field = is_null field || is_number field

-- The cause that a fault of a row is. Want of memory is none.
abbrev pub cause_of : RowFault → List LoadCause
cause_of row.RowFull = RowFull ∷ []
cause_of row.Arity = Arity ∷ []
cause_of (row.NullNotAllowed column) = NullNotAllowed column ∷ []
cause_of (row.TypeMismatch column) = TypeMismatch column ∷ []
cause_of (row.OutOfRange column) = OutOfRange column ∷ []
cause_of (row.TooLong column) = TooLong column ∷ []
cause_of (row.DuplicateKey number) = DuplicateKey number ∷ []
cause_of row.OutOfMemory = []

-- The causes of a field in a column, in their order. What has no value has none that could be refused.
abbrev pub field_causes : ℕ → ColumnDef → List ℕ → List LoadCause
field_causes column def field =
    told (not (is_utf8 field)) NotUtf8
    ++ (if is_readable def.kind field
    then flat_map cause_of (value_faults column def (field_value def.kind field)) else NotNumber
    ∷ [])
