-- When two literals are the same.
use Rattle.std.specs.Prelude.{Bool}
use Rattle.std.specs.Ordering.{is_eq}
use Rattle.sa_value.specs.declared.value.Value.{Value}
use Rattle.sa_value.specs.Compare.{order_of}

abbrev pub same_value : Value → Value → Bool
same_value value other = is_eq (order_of value other)
