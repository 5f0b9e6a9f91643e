-- What a field that isn't NULL is refused by, in a column of numbers and in a column of texts.
use Rattle.std.specs.Prelude.{ℕ, List, [], ◌∷◌, ◌++◌, length, Bool, not, ◌||◌, nat_lt, nat_le, if◌then◌else◌}
use Rattle.std.specs.Str.{is_utf8, chars}
use Rattle.std.specs.Str.Parse.{digits_value, starts_with_minus}
use Rattle.sa_table.specs.Create.{told}
use Rattle.sa_load.specs.declared.fault.LoadCause.{LoadCause}
use Rattle.sa_load.specs.declared.fault.LoadCause.TheVariants.{NotUtf8, NotNumber, OutOfRange, TooLong}
use Rattle.sa_load.specs.Field.{digits, is_number}

-- Numbers of a column lie from minus its limit on, and below its limit.
abbrev pub is_within : ℕ → Bool → ℕ → Bool
is_within limit minus magnitude = if minus then nat_le magnitude limit else nat_lt magnitude limit

abbrev pub number_causes : (column limit : ℕ) → List ℕ → List LoadCause
number_causes column limit field =
    told (not (is_utf8 field)) NotUtf8
    ++ (if is_number field
    then told (not (is_within limit (starts_with_minus field) (digits_value 10 (digits field))))
    (OutOfRange column) else NotNumber ∷ [])

abbrev pub text_causes : (column characters : ℕ) → List ℕ → List LoadCause
text_causes column characters field =
    told (not (is_utf8 field)) NotUtf8
    ++ told (nat_lt 255 (length field) || nat_lt characters (length (chars field))) (TooLong column)
