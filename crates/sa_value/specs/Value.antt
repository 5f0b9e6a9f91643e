-- What a lent value is: the value that its holder has.
use Rattle.sa_value.specs.declared.value.Value.{Value}
use Rattle.sa_value.specs.declared.value.Value.TheVariants as held
use Rattle.sa_value.specs.declared.value.ValueRef.{ValueRef}
use Rattle.sa_value.specs.declared.value.ValueRef.TheVariants.{Null, Int, Big, Text}

-- the value that is lent
abbrev pub value_at : ValueRef → Value
value_at Null = held.Null
value_at (Int number) = held.Int number
value_at (Big number) = held.Big number
value_at (Text text) = held.Text text.now
