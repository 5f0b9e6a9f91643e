-- The number of a value, if it is one of 64 bits.
use Rattle.std.specs.Prelude.{ℤ, Option, Some, None, if◌then◌else◌}
use Rattle.sa_value.specs.declared.value.Value.{Value}
use Rattle.sa_value.specs.declared.value.Value.TheVariants.{Null, Int, Big, Text}
use Rattle.sa_cond.specs.Interval.{is_bigint}

abbrev pub small_number : Value → Option ℤ
small_number Null = None
small_number (Int number) = Some number
small_number (Big number) = if is_bigint number then Some number else None
small_number (Text text) = None
