-- The order of values is total: it goes by the kind, then by the number, then by the text.
use Rattle.std.proofs.Common.{◌≡◌, ℕ, ℤ, List, [], refl, subst, ap, ◌∙◌}
use Rattle.std.proofs.lemmas.Cmp.{on_total, then_total, nat_cmp_total, int_cmp_total, nat_list_cmp_total, tied_itself}
use Rattle.std.specs.Cmp.{IsTotalOrder}
use Rattle.std.specs.Cmp.Lexicographic.{slice_cmp}
use Rattle.std.specs.Ordering.{nat_cmp, int_cmp, ordering_then, then_cmp, on}
use Rattle.std.specs.declared.cmp.Ordering.{Ordering}
use Rattle.std.specs.declared.cmp.Ordering.TheVariants.{Less, Equal, Greater}
use Rattle.sa_value.specs.declared.value.Value.{Value}
use Rattle.sa_value.specs.declared.value.Value.TheVariants.{Null, Int, Big, Text}
use Rattle.sa_value.specs.Compare.{order_of}

-- NULL, numbers and texts in their order
abbrev kind : Value → ℕ
kind Null = 0
kind (Int number) = 1
kind (Big number) = 1
kind (Text text) = 2

-- the number; every other value has the given one
abbrev number_or : ℤ → Value → ℤ
number_or other Null = other
number_or other (Int number) = number
number_or other (Big number) = number
number_or other (Text text) = other

-- the text; every other value has the empty one
abbrev text : Value → List ℕ
text Null = []
text (Int number) = []
text (Big number) = []
text (Text bytes) = bytes

abbrev by_parts : ℤ → Value → Value → Ordering
by_parts other = then_cmp (on kind nat_cmp) (then_cmp (on (number_or other) int_cmp) (on text (slice_cmp nat_cmp)))

by_parts-total : (other : ℤ) → IsTotalOrder (by_parts other)
by_parts-total other = then_total (on_total kind nat_cmp_total) (then_total (on_total (number_or other) int_cmp_total) (on_total text nat_list_cmp_total))

then-Equal : (order : Ordering) → ordering_then order Equal ≡ order
then-Equal Less = refl
then-Equal Equal = refl
then-Equal Greater = refl

after_itself : (number : ℤ) (order : Ordering) → ordering_then (int_cmp number number) order ≡ order
after_itself number order = ap (λ first. ordering_then first order) (tied_itself int_cmp_total number)

by_parts-is : (other : ℤ) (a b : Value) → by_parts other a b ≡ order_of a b
by_parts-is other Null Null = after_itself other Equal
by_parts-is other Null (Int b) = refl
by_parts-is other Null (Big b) = refl
by_parts-is other Null (Text b) = refl
by_parts-is other (Int a) Null = refl
by_parts-is other (Int a) (Int b) = then-Equal (int_cmp a b)
by_parts-is other (Int a) (Big b) = then-Equal (int_cmp a b)
by_parts-is other (Int a) (Text b) = refl
by_parts-is other (Big a) Null = refl
by_parts-is other (Big a) (Int b) = then-Equal (int_cmp a b)
by_parts-is other (Big a) (Big b) = then-Equal (int_cmp a b)
by_parts-is other (Big a) (Text b) = refl
by_parts-is other (Text a) Null = refl
by_parts-is other (Text a) (Int b) = refl
by_parts-is other (Text a) (Big b) = refl
by_parts-is other (Text a) (Text b) = after_itself other (slice_cmp nat_cmp a b)

pub order_of-total : (other : ℤ) → IsTotalOrder order_of
order_of-total other = subst IsTotalOrder (λ i a b. by_parts-is other a b i) (by_parts-total other)
