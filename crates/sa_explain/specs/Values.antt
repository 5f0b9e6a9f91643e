-- How a document tells a value.
-- Source: RFC 8259.
use Rattle.std.specs.Prelude.{List, map}
use Rattle.std.specs.Fmt.{signed_decimal}
use Rattle.serde_json.specs.Data.{Data, null, number, string, array}
use Rattle.serde_json.specs.Find.{of_integer}
use Rattle.serde_json.specs.View.{items_of}
use Rattle.sa_value.specs.declared.value.Value.{Value}
use Rattle.sa_value.specs.declared.value.Value.TheVariants.{Null, Int, Big, Text}

-- A number past BIGINT, whose digits a reader of JSON may not keep, is a text of them.
abbrev pub value_data : Value → Data
value_data Null = null
value_data (Int n) = number (of_integer n)
value_data (Big n) = string (signed_decimal n)
value_data (Text text) = string text

abbrev pub values_data : List Value → Data
values_data values = array (items_of (map value_data values))
