-- The order of values and the truth of a comparison.
use Rattle.std.specs.Prelude.{Bool, true, false, ⊤}
use Rattle.std.specs.Ordering.{nat_cmp, int_cmp}
use Rattle.std.specs.Cmp.Lexicographic.{slice_cmp}
use Rattle.std.specs.declared.cmp.Ordering.{Ordering}
use Rattle.std.specs.declared.cmp.Ordering.TheVariants.{Less, Equal, Greater}
use Rattle.sa_value.specs.declared.truth.CompareOp.{CompareOp}
use Rattle.sa_value.specs.declared.truth.CompareOp.TheVariants.{Eq, NullEq, Ne, Lt, Le, Gt, Ge}
use Rattle.sa_value.specs.declared.truth.Truth.{Truth}
use Rattle.sa_value.specs.declared.truth.Truth.TheVariants.{False, Unknown, True}
use Rattle.sa_value.specs.declared.value.Value.{Value}
use Rattle.sa_value.specs.declared.value.Value.TheVariants.{Null, Int, Big, Text}

-- NULL comes first, then numbers by their value, then texts by their bytes.
abbrev pub order_of : Value → Value → Ordering
order_of Null Null = Equal
order_of Null (Int b) = Less
order_of Null (Big b) = Less
order_of Null (Text b) = Less
order_of (Int a) Null = Greater
order_of (Int a) (Int b) = int_cmp a b
order_of (Int a) (Big b) = int_cmp a b
order_of (Int a) (Text b) = Less
order_of (Big a) Null = Greater
order_of (Big a) (Int b) = int_cmp a b
order_of (Big a) (Big b) = int_cmp a b
order_of (Big a) (Text b) = Less
order_of (Text a) Null = Greater
order_of (Text a) (Int b) = Greater
order_of (Text a) (Big b) = Greater
order_of (Text a) (Text b) = slice_cmp nat_cmp a b

-- Two numbers can be compared, two texts, and NULL with anything.
abbrev pub CanCompare : Value → Value → Type 0
CanCompare (Int a) (Text b) = ⊥
CanCompare (Big a) (Text b) = ⊥
CanCompare (Text a) (Int b) = ⊥
CanCompare (Text a) (Big b) = ⊥
CanCompare a b = ⊤

-- whether a comparison holds of two values that stand so
abbrev pub holds_at : CompareOp → Ordering → Bool
holds_at Eq Equal = true
holds_at NullEq Equal = true
holds_at Ne Less = true
holds_at Ne Greater = true
holds_at Lt Less = true
holds_at Le Less = true
holds_at Le Equal = true
holds_at Gt Greater = true
holds_at Ge Equal = true
holds_at Ge Greater = true
holds_at op order = false

-- the truth of what is known
abbrev pub known : Bool → Truth
known true = True
known false = False

-- A comparison with NULL is UNKNOWN, but `<=>` takes NULL for a value like any other.
abbrev pub truth_of : CompareOp → Value → Value → Truth
truth_of NullEq a b = known (holds_at NullEq (order_of a b))
truth_of op Null b = Unknown
truth_of op a Null = Unknown
truth_of op a b = known (holds_at op (order_of a b))
