-- The order of cuts, their canonical form, and what lies in a range.
-- A range is read as MariaDB's range access reads it: MariaDB Knowledge Base, "EXPLAIN", type "range".
use Rattle.std.specs.Prelude.{◌≡◌, Bool, not, ◌&&◌, List, [], ◌∷◌}
use Rattle.std.specs.Ordering.{is_lt, ordering_then, ordering_reverse}
use Rattle.std.specs.declared.cmp.Ordering.{Ordering}
use Rattle.std.specs.declared.cmp.Ordering.TheVariants.{Less, Equal, Greater}
use Rattle.sa_value.specs.declared.value.Value.{Value}
use Rattle.sa_value.specs.declared.value.Value.TheVariants.{Null}
use Rattle.sa_value.specs.Compare.{order_of}
use Rattle.sa_key.specs.declared.cut.Cut.{Cut}
use Rattle.sa_key.specs.declared.cut.Side.{Side}
use Rattle.sa_key.specs.declared.cut.Side.TheVariants.{Below, Above}
use Rattle.sa_key.specs.declared.range.KeyRange.{KeyRange}
use Rattle.sa_key.specs.Order.{is_before}

-- Of two cuts with equal tuples the one below comes first.
abbrev pub order_of_sides : Side → Side → Ordering
order_of_sides Below Below = Equal
order_of_sides Below Above = Less
order_of_sides Above Below = Greater
order_of_sides Above Above = Equal

-- how a cut stands to those whose tuples are longer and begin with its own
abbrev pub before_longer : Side → Ordering
before_longer Below = Less
before_longer Above = Greater

-- The first part in which two cuts differ decides; where there is none and one is shorter, its side
-- does.
abbrev pub order_of_ends : List Value → Side → List Value → Side → Ordering
order_of_ends [] side [] other = order_of_sides side other
order_of_ends [] side (value ∷ values) other = before_longer side
order_of_ends (value ∷ values) side [] other = ordering_reverse (before_longer other)
order_of_ends (value ∷ values) side (next ∷ others) other =
    ordering_then (order_of value next) (order_of_ends values side others other)

abbrev pub order_of_cuts : Cut → Cut → Ordering
order_of_cuts cut other = order_of_ends cut.tuple cut.side other.tuple other.side

-- NULL comes before all values, so below (1, NULL) is below (1): NULLs at the end are dropped.
abbrev pub kept_before : Value → List Value → List Value
kept_before Null [] = []
kept_before value values = value ∷ values

abbrev pub without_last_nulls : List Value → List Value
without_last_nulls [] = []
without_last_nulls (value ∷ values) = kept_before value (without_last_nulls values)

abbrev pub canonical_tuple : Side → List Value → List Value
canonical_tuple Below tuple = without_last_nulls tuple
canonical_tuple Above tuple = tuple

-- the canonical form of a cut, with the same tuples before it
abbrev pub canonical_cut : Cut → Cut
canonical_cut cut = record { tuple = canonical_tuple cut.side cut.tuple; side = cut.side }

abbrev pub canonical_range : KeyRange → KeyRange
canonical_range range = record { from = canonical_cut range.from; to = canonical_cut range.to }

-- The cut is in canonical form.
abbrev pub IsCanonicalCut : Cut → Type 0
IsCanonicalCut cut = canonical_cut cut ≡ cut

-- whether a canonical cut lies in a range: it isn't before the range's start, and is before its end
abbrev pub is_cut_in : KeyRange → Cut → Bool
is_cut_in range cut =
    not (is_lt (order_of_cuts cut (canonical_cut range.from)))
    && is_lt (order_of_cuts cut (canonical_cut range.to))

-- whether a tuple does
abbrev pub is_tuple_in : KeyRange → List Value → Bool
is_tuple_in range tuple = not (is_before tuple range.from) && is_before tuple range.to
