-- The ranges of all sequences rise, and are disjoint.
use Rattle.std.proofs.Common.{◌≡◌, ℕ, Bool, true, false, cond, List, [], ◌∷◌, ◌++◌, map, flat_map, Some, None, refl, sym, ap, ap₂, ◌∙◌, subst}
use Rattle.std.specs.Prelude.{⊤}
use Rattle.std.specs.List.{filter}
use Rattle.std.specs.Cmp.{IsTotalOrder}
use Rattle.std.specs.Ordering.{is_gt, ordering_then, ordering_reverse}
use Rattle.std.specs.declared.cmp.Ordering.{Ordering}
use Rattle.std.specs.declared.cmp.Ordering.TheVariants.{Less, Equal, Greater}
use Rattle.std.proofs.lemmas.Cmp.{tied_itself, upto as upto_next}
use Rattle.std.proofs.lemmas.List.{map-append}
use Rattle.sa_value.specs.declared.value.Value.{Value}
use Rattle.sa_value.specs.declared.value.Value.TheVariants.{Null, Int, Big, Text}
use Rattle.sa_value.specs.Compare.{order_of}
use Rattle.sa_key.specs.declared.cut.Cut.{Cut}
use Rattle.sa_key.specs.declared.cut.Side.{Side}
use Rattle.sa_key.specs.declared.cut.Side.TheVariants.{Below, Above}
use Rattle.sa_key.specs.declared.range.KeyRange.{KeyRange}
use Rattle.sa_key.specs.Range.{order_of_sides, order_of_ends, order_of_cuts, kept_before, without_last_nulls, canonical_tuple, canonical_cut}
use Rattle.sa_key.proofs.RangeLemmas.{order_of_cuts-total}
use Rattle.sa_cond.specs.declared.cond.Cond.{Cond}
use Rattle.sa_range.specs.declared.line.Piece.{Piece}
use Rattle.sa_range.specs.declared.line.Piece.TheVariants.{Point, Gap}
use Rattle.sa_range.specs.Line.{put_before, put_in, put_constant, constants, pieces_from, pieces_of}
use Rattle.sa_range.specs.Atom.{is_true, truth_on, literals_of}
use Rattle.sa_range.specs.RangeList.{continued, kept_pieces, sequences, gap_end, range_of}

-- A range behind one more value.
abbrev pub behind_cut : Value → Cut → Cut
behind_cut value cut = record { tuple = value ∷ cut.tuple; side = cut.side }

abbrev pub behind : Value → KeyRange → KeyRange
behind value range = record { from = behind_cut value range.from; to = behind_cut value range.to }

range_of-behind : (value : Value) (points : List Value) (pieces : List Piece) → range_of (value ∷ points) pieces ≡ behind value (range_of points pieces)
range_of-behind value points [] = refl
range_of-behind value points (Point next ∷ pieces) = range_of-behind value (points ++ next ∷ []) pieces
range_of-behind value points (Gap lower None ∷ pieces) = refl
range_of-behind value points (Gap lower (Some upper) ∷ pieces) = refl

pub spans-Point : (value : Value) (walks : List (List Piece)) → map (range_of []) (map (λ others. Point value ∷ others) walks) ≡ map (behind value) (map (range_of []) walks)
spans-Point value [] = refl
spans-Point value (walk ∷ walks) = ap₂ (λ (first : KeyRange) rest. first ∷ rest) (range_of-behind value [] walk) (spans-Point value walks)

-- The order of canonical forms
abbrev pub order_between : Cut → Cut → Ordering
order_between cut other = order_of_cuts (canonical_cut cut) (canonical_cut other)

abbrev pub Upto : Cut → Cut → Type 0
Upto cut other = is_gt (order_between cut other) ≡ false

abbrev pub Before : Cut → Cut → Type 0
Before cut other = order_between cut other ≡ Less

abbrev pub bottom : Cut
bottom = record { tuple = []; side = Below }

abbrev pub top : Cut
top = record { tuple = []; side = Above }

abbrev pub IsTotal : Type 0
IsTotal = IsTotalOrder order_of

pub upto : IsTotal → (x y z : Cut) → Upto x y → Upto y z → Upto x z
upto total x y z first second = upto_next (order_of_cuts-total total) (canonical_cut x) (canonical_cut y) (canonical_cut z) first second

pub upto_itself : IsTotal → (x : Cut) → Upto x x
upto_itself total x = ap is_gt (tied_itself (order_of_cuts-total total) (canonical_cut x))

pub before_upto : (x y : Cut) → Before x y → Upto x y
before_upto x y before = ap is_gt before

-- The same value in front changes no order.
then_equal : (first rest : Ordering) → first ≡ Equal → ordering_then first rest ≡ rest
then_equal first rest same = ap (λ order. ordering_then order rest) same

below_above : (value : Value) (a b : List Value) → order_of value value ≡ Equal → order_of_ends (kept_before value a) Below (value ∷ b) Above ≡ order_of_ends a Below b Above
below_above Null [] [] same = refl
below_above Null [] (y ∷ b) same = refl
below_above Null (x ∷ a) b same = refl
below_above (Int value) a b same = then_equal (order_of (Int value) (Int value)) (order_of_ends a Below b Above) same
below_above (Big value) a b same = then_equal (order_of (Big value) (Big value)) (order_of_ends a Below b Above) same
below_above (Text value) a b same = then_equal (order_of (Text value) (Text value)) (order_of_ends a Below b Above) same

above_below : (value : Value) (a b : List Value) → order_of value value ≡ Equal → order_of_ends (value ∷ a) Above (kept_before value b) Below ≡ order_of_ends a Above b Below
above_below Null [] [] same = refl
above_below Null (x ∷ a) [] same = refl
above_below Null a (y ∷ b) same = refl
above_below (Int value) a b same = then_equal (order_of (Int value) (Int value)) (order_of_ends a Above b Below) same
above_below (Big value) a b same = then_equal (order_of (Big value) (Big value)) (order_of_ends a Above b Below) same
above_below (Text value) a b same = then_equal (order_of (Text value) (Text value)) (order_of_ends a Above b Below) same

below_below : (value : Value) (a b : List Value) → order_of value value ≡ Equal → order_of_ends (kept_before value a) Below (kept_before value b) Below ≡ order_of_ends a Below b Below
below_below Null [] [] same = refl
below_below Null [] (y ∷ b) same = refl
below_below Null (x ∷ a) [] same = refl
below_below Null (x ∷ a) (y ∷ b) same = refl
below_below (Int value) a b same = then_equal (order_of (Int value) (Int value)) (order_of_ends a Below b Below) same
below_below (Big value) a b same = then_equal (order_of (Big value) (Big value)) (order_of_ends a Below b Below) same
below_below (Text value) a b same = then_equal (order_of (Text value) (Text value)) (order_of_ends a Below b Below) same

behind_ends : (value : Value) (a b : List Value) (s r : Side) → order_of value value ≡ Equal
    → order_of_ends (canonical_tuple s (value ∷ a)) s (canonical_tuple r (value ∷ b)) r ≡ order_of_ends (canonical_tuple s a) s (canonical_tuple r b) r
behind_ends value a b Below Below same = below_below value (without_last_nulls a) (without_last_nulls b) same
behind_ends value a b Below Above same = below_above value (without_last_nulls a) b same
behind_ends value a b Above Below same = above_below value a (without_last_nulls b) same
behind_ends value a b Above Above same = then_equal (order_of value value) (order_of_ends a Above b Above) same

pub behind_order : IsTotal → (value : Value) (c d : Cut) → order_between (behind_cut value c) (behind_cut value d) ≡ order_between c d
behind_order total value c d = behind_ends value c.tuple d.tuple c.side d.side (tied_itself total value)

-- Ranges that rise from one cut to another.
abbrev pub Rising : Cut → List KeyRange → Cut → Type 0
Rising low [] high = Upto low high
Rising low (range ∷ ranges) high = Upto low range.from × (Before range.from range.to × Rising range.to ranges high)

module _ (total : IsTotal) where
  rising_lower : (lower low : Cut) (ranges : List KeyRange) (high : Cut) → Upto lower low → Rising low ranges high → Rising lower ranges high
  rising_lower lower low [] high below rises = upto total lower low high below rises
  rising_lower lower low (range ∷ ranges) high below rises = (upto total lower low range.from below rises.0, rises.1)

  rising_append : (low : Cut) (xs : List KeyRange) (middle : Cut) (ys : List KeyRange) (high : Cut) → Rising low xs middle → Rising middle ys high → Rising low (xs ++ ys) high
  rising_append low [] middle ys high first second = rising_lower low middle ys high first second
  rising_append low (x ∷ xs) middle ys high first second = (first.0, (first.1.0, rising_append x.to xs middle ys high first.1.1 second))

  rising_behind : (value : Value) (low : Cut) (ranges : List KeyRange) (high : Cut) → Rising low ranges high → Rising (behind_cut value low) (map (behind value) ranges) (behind_cut value high)
  rising_behind value low [] high rises = ap is_gt (behind_order total value low high) ∙ rises
  rising_behind value low (range ∷ ranges) high rises = (
    ap is_gt (behind_order total value low range.from) ∙ rises.0,
    (behind_order total value range.from range.to ∙ rises.1.0, rising_behind value range.to ranges high rises.1.1),
  )

  -- The pieces of a line, as ranges.
  abbrev from_cut : Piece → Cut
  from_cut (Point value) = record { tuple = value ∷ []; side = Below }
  from_cut (Gap lower upper) = record { tuple = lower ∷ []; side = Above }

  abbrev to_cut : Piece → Cut
  to_cut (Point value) = record { tuple = value ∷ []; side = Above }
  to_cut (Gap lower upper) = gap_end [] upper

  abbrev Line : Cut → List Piece → Cut → Type 0
  Line low [] high = Upto low high
  Line low (piece ∷ pieces) high = Upto low (from_cut piece) × (Before (from_cut piece) (to_cut piece) × Line (to_cut piece) pieces high)

  line_lower : (lower low : Cut) (pieces : List Piece) (high : Cut) → Upto lower low → Line low pieces high → Line lower pieces high
  line_lower lower low [] high below rises = upto total lower low high below rises
  line_lower lower low (piece ∷ pieces) high below rises = (upto total lower low (from_cut piece) below rises.0, rises.1)

  kept_or_not : (kept : Bool) (low : Cut) (piece : Piece) (pieces : List Piece) (high : Cut) → Upto low (from_cut piece) → Before (from_cut piece) (to_cut piece) → Line (to_cut piece) pieces high
      → Line low (cond kept (piece ∷ pieces) pieces) high
  kept_or_not true low piece pieces high first second rest = (first, (second, rest))
  kept_or_not false low piece pieces high first second rest =
      line_lower low (to_cut piece) pieces high (upto total low (from_cut piece) (to_cut piece) first (before_upto (from_cut piece) (to_cut piece) second)) rest

  line_filter : (keep : Piece → Bool) (low : Cut) (pieces : List Piece) (high : Cut) → Line low pieces high → Line low (filter keep pieces) high
  line_filter keep low [] high rises = rises
  line_filter keep low (piece ∷ pieces) high rises =
      kept_or_not (keep piece) low piece (filter keep pieces) high rises.0 rises.1.0 (line_filter keep (to_cut piece) pieces high rises.1.1)

  -- Constants that rise.
  abbrev pub Ascends : Value → List Value → Type 0
  Ascends low [] = ⊤
  Ascends low (value ∷ values) = (order_of low value ≡ Less) × Ascends value values

  ascends_before : (order : Ordering) (low value first : Value) (others put : List Value) → order_of value first ≡ order → order_of low value ≡ Less → Ascends low (first ∷ others)
      → (order_of first value ≡ Less → Ascends first put) → Ascends low (put_before order value first others put)
  ascends_before Less low value first others put is above all later = (above, (is, all.1))
  ascends_before Equal low value first others put is above all later = all
  ascends_before Greater low value first others put is above all later = (all.0, later (total.antisymm first value ∙ ap ordering_reverse is))

  ascends_put : (low value : Value) (values : List Value) → order_of low value ≡ Less → Ascends low values → Ascends low (put_in value values)
  ascends_put low value [] above all = (above, tt)
  ascends_put low value (first ∷ others) above all =
      ascends_before (order_of value first) low value first others (put_in value others) refl above all (λ below. ascends_put first value others below all.1)

  ascends_constant : (value : Value) (values : List Value) → Ascends Null values → Ascends Null (put_constant value values)
  ascends_constant Null values all = all
  ascends_constant (Int value) values all = ascends_put Null (Int value) values refl all
  ascends_constant (Big value) values all = ascends_put Null (Big value) values refl all
  ascends_constant (Text value) values all = ascends_put Null (Text value) values refl all

  pub constants_ascend : (values : List Value) → Ascends Null (constants values)
  constants_ascend [] = tt
  constants_ascend (value ∷ values) = ascends_constant value (constants values) (constants_ascend values)

  gap_rises : (lower value : Value) → order_of lower value ≡ Less → Before (record { tuple = lower ∷ []; side = Above }) (record { tuple = value ∷ []; side = Below })
  gap_rises Null Null less = cc
  gap_rises (Int lower) Null less = cc
  gap_rises (Big lower) Null less = cc
  gap_rises (Text lower) Null less = cc
  gap_rises lower (Int value) less = ap (λ order. ordering_then order (order_of_sides Above Below)) less
  gap_rises lower (Big value) less = ap (λ order. ordering_then order (order_of_sides Above Below)) less
  gap_rises lower (Text value) less = ap (λ order. ordering_then order (order_of_sides Above Below)) less

  point_rises : (value : Value) → Before (record { tuple = value ∷ []; side = Below }) (record { tuple = value ∷ []; side = Above })
  point_rises Null = refl
  point_rises (Int value) = ap (λ order. ordering_then order (order_of_sides Below Above)) (tied_itself total (Int value))
  point_rises (Big value) = ap (λ order. ordering_then order (order_of_sides Below Above)) (tied_itself total (Big value))
  point_rises (Text value) = ap (λ order. ordering_then order (order_of_sides Below Above)) (tied_itself total (Text value))

  pieces_rise : (lower : Value) (values : List Value) → Ascends lower values → Line (record { tuple = lower ∷ []; side = Above }) (pieces_from lower values) top
  pieces_rise lower [] all = (upto_itself total (record { tuple = lower ∷ []; side = Above }), (refl, upto_itself total top))
  pieces_rise lower (value ∷ values) all = (
    upto_itself total (record { tuple = lower ∷ []; side = Above }),
    (
      gap_rises lower value all.0,
      (
        upto_itself total (record { tuple = value ∷ []; side = Below }),
        (point_rises value, pieces_rise value values all.1),
      ),
    ),
  )

  line_rises : (values : List Value) → Ascends Null values → Line bottom (pieces_of values) top
  line_rises values all = (refl, (refl, pieces_rise Null values all))

  module _ (follow : Value → List (List Piece)) (each : (value : Value) → Rising bottom (map (range_of []) (follow value)) top) where
    rising_piece : (piece : Piece) → Before (from_cut piece) (to_cut piece) → Rising (from_cut piece) (map (range_of []) (continued follow piece)) (to_cut piece)
    rising_piece (Point value) rises =
        subst (λ ranges. Rising (behind_cut value bottom) ranges (behind_cut value top)) (sym (spans-Point value (follow value)))
        (rising_behind value bottom (map (range_of []) (follow value)) top (each value))
    rising_piece (Gap lower None) rises = (upto_itself total (record { tuple = lower ∷ []; side = Above }), (rises, upto_itself total top))
    rising_piece (Gap lower (Some upper)) rises = (upto_itself total (record { tuple = lower ∷ []; side = Above }), (rises, upto_itself total (record { tuple = upper ∷ []; side = Below })))

    rising_pieces : (low : Cut) (pieces : List Piece) (high : Cut) → Line low pieces high → Rising low (map (range_of []) (flat_map (continued follow) pieces)) high
    rising_pieces low [] high rises = rises
    rising_pieces low (piece ∷ pieces) high rises =
        subst (λ ranges. Rising low ranges high) (sym (map-append (range_of []) (continued follow piece) (flat_map (continued follow) pieces)))
        (rising_append low (map (range_of []) (continued follow piece)) (to_cut piece) (map (range_of []) (flat_map (continued follow) pieces)) high
        (rising_lower low (from_cut piece) (map (range_of []) (continued follow piece)) (to_cut piece) rises.0 (rising_piece piece rises.1.0))
        (rising_pieces (to_cut piece) pieces high rises.1.1))

  pub rising : (condition : Cond) (table : ℕ) (chosen : List (ℕ × Piece)) (columns : List ℕ) → Rising bottom (map (range_of []) (sequences condition table chosen columns)) top
  rising condition table chosen [] = (refl, (refl, refl))
  rising condition table chosen (column ∷ columns) =
      rising_pieces (λ value. sequences condition table (chosen ++ (column, Point value) ∷ []) columns)
      (λ value. rising condition table (chosen ++ (column, Point value) ∷ []) columns)
      bottom (kept_pieces condition table chosen column) top
      (line_filter (λ piece. is_true (truth_on table (chosen ++ (column, piece) ∷ []) condition)) bottom (pieces_of (constants (literals_of table column condition))) top
      (line_rises (constants (literals_of table column condition)) (constants_ascend (literals_of table column condition))))
