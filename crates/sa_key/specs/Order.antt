-- The order of the tuples of a key, and which of them lie before a cut.
use Rattle.std.specs.Prelude.{List, length, take, Bool, true, false, IsTrue}
use Rattle.std.specs.Cmp.Lexicographic.{slice_cmp}
use Rattle.std.specs.declared.cmp.Ordering.{Ordering}
use Rattle.std.specs.declared.cmp.Ordering.TheVariants.{Less, Equal, Greater}
use Rattle.sa_value.specs.declared.value.Value.{Value}
use Rattle.sa_value.specs.Compare.{order_of}
use Rattle.sa_key.specs.declared.cut.Cut.{Cut}
use Rattle.sa_key.specs.declared.cut.Side.{Side}
use Rattle.sa_key.specs.declared.cut.Side.TheVariants.{Below, Above}

-- The first part in which two tuples differ decides. A tuple comes before the longer ones that
-- begin with it.
abbrev pub order_of_tuples : List Value → List Value → Ordering
order_of_tuples = slice_cmp order_of

-- Whether what stands so to a cut's tuple lies before the cut: what is less does, and what is equal
-- does where the cut lies above it.
abbrev pub is_before_side : Ordering → Side → Bool
is_before_side Less side = true
is_before_side Equal Below = false
is_before_side Equal Above = true
is_before_side Greater side = false

-- Whether a tuple lies before a cut: as many of its first parts as the cut has are less than the
-- cut's, or they are equal to them and the cut lies above.
abbrev pub is_before : List Value → Cut → Bool
is_before tuple cut =
    is_before_side (order_of_tuples (take (length cut.tuple) tuple) cut.tuple) cut.side

-- The tuple lies before the cut.
abbrev pub IsBefore : List Value → Cut → Type 0
IsBefore tuple cut = IsTrue (is_before tuple cut)
