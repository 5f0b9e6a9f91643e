-- The order of cuts is a total one, and what is true of canonical forms and of the tuples before a cut.
use Rattle.std.proofs.Common.{◌≡◌, ◌≢◌, ℕ, ◌+◌, ◌<◌, ◌≤◌, suc, List, [], ◌∷◌, ◌++◌, length, take, get_or, Bool, true, false, IsTrue, not, ◌&&◌, refl, sym, ◌∙◌, ap, subst, arith}
use Rattle.std.proofs.lemmas.Cmp.{on_total, then_total, lists_total, nat_cmp_total, alike_right, tied_itself}
use Rattle.std.proofs.lemmas.List.{take_more}
use Rattle.std.specs.Cmp.{IsTotalOrder}
use Rattle.std.specs.Cmp.Lexicographic.{slice_cmp}
use Rattle.std.specs.Ordering.{is_lt, is_gt, nat_cmp, on, then_cmp, ordering_then, ordering_reverse}
use Rattle.std.specs.declared.cmp.Ordering.{Ordering}
use Rattle.std.specs.declared.cmp.Ordering.TheVariants.{Less, Equal, Greater}
use Rattle.sa_value.specs.declared.value.Value.{Value}
use Rattle.sa_value.specs.declared.value.Value.TheVariants.{Null, Int, Big, Text}
use Rattle.sa_value.specs.Compare.{order_of}
use Rattle.sa_key.specs.declared.cut.Cut.{Cut}
use Rattle.sa_key.specs.declared.cut.Side.{Side}
use Rattle.sa_key.specs.declared.cut.Side.TheVariants.{Below, Above}
use Rattle.sa_key.specs.declared.range.KeyRange.{KeyRange}
use Rattle.sa_key.specs.Order.{order_of_tuples, is_before_side, is_before, IsBefore}
use Rattle.sa_key.specs.Range.{order_of_sides, before_longer, order_of_ends, order_of_cuts, kept_before, without_last_nulls, canonical_tuple, canonical_cut, IsCanonicalCut, is_cut_in, is_tuple_in}

-- A part of a cut's tuple, at rank 1; what stands behind the last one has rank 0 at a cut below, and
-- rank 2 at a cut above.
record End : Type 0 where
  rank : ℕ
  value : Value

abbrev order_of_end : End → End → Ordering
order_of_end = then_cmp (on (λ (x : End). x.rank) nat_cmp) (on (λ (x : End). x.value) order_of)

abbrev ends : List Value → Side → List End
ends [] Below = record { rank = 0; value = Null } ∷ []
ends [] Above = record { rank = 2; value = Null } ∷ []
ends (value ∷ values) side = record { rank = 1; value = value } ∷ ends values side

ends-order : (a : List Value) (s : Side) (b : List Value) (r : Side) → slice_cmp order_of_end (ends a s) (ends b r) ≡ order_of_ends a s b r
ends-order [] Below [] Below = refl
ends-order [] Below [] Above = refl
ends-order [] Above [] Below = refl
ends-order [] Above [] Above = refl
ends-order [] Below (y ∷ b) r = refl
ends-order [] Above (y ∷ b) r = refl
ends-order (x ∷ a) s [] Below = refl
ends-order (x ∷ a) s [] Above = refl
ends-order (x ∷ a) s (y ∷ b) r = ap (λ rest. ordering_then (order_of x y) rest) (ends-order a s b r)

abbrev ends_of : Cut → List End
ends_of cut = ends cut.tuple cut.side

pub order_of_cuts-total : IsTotalOrder order_of → IsTotalOrder order_of_cuts
order_of_cuts-total total =
    subst IsTotalOrder (λ i a b. ends-order a.tuple a.side b.tuple b.side i)
    (on_total ends_of (lists_total (then_total (on_total (λ (x : End). x.rank) nat_cmp_total) (on_total (λ (x : End). x.value) total))))

then-then : (first second third : Ordering) → ordering_then first (ordering_then second third) ≡ ordering_then (ordering_then first second) third
then-then Less second third = refl
then-then Equal second third = refl
then-then Greater second third = refl

-- cuts whose tuples are as long
pub sides_decide : (a b : List Value) (s r : Side) → length a ≡ length b → order_of_ends a s b r ≡ ordering_then (order_of_tuples (take (length b) a) b) (order_of_sides s r)
sides_decide [] [] s r same = refl
sides_decide [] (y ∷ b) s r same = absurd (omega arith)
sides_decide (x ∷ a) [] s r same = absurd (omega arith)
sides_decide (x ∷ a) (y ∷ b) s r same =
    ap (λ rest. ordering_then (order_of x y) rest) (sides_decide a b s r (omega arith))
    ∙ then-then (order_of x y) (order_of_tuples (take (length b) a) b) (order_of_sides s r)

-- a cut and a shorter one
pub shorter_decides : (a b : List Value) (s r : Side) → length b < length a → order_of_ends a s b r ≡ ordering_then (order_of_tuples (take (length b) a) b) (ordering_reverse (before_longer r))
shorter_decides [] b s r longer = absurd (omega arith)
shorter_decides (x ∷ a) [] s r longer = refl
shorter_decides (x ∷ a) (y ∷ b) s r longer =
    ap (λ rest. ordering_then (order_of x y) rest) (shorter_decides a b s r (omega arith))
    ∙ then-then (order_of x y) (order_of_tuples (take (length b) a) b) (ordering_reverse (before_longer r))

-- The cut right below a tuple.
abbrev pub below : List Value → Cut
below tuple = record { tuple = tuple; side = Below }

before_ends : (t c : List Value) (side : Side) → length c ≤ length t → is_before_side (order_of_tuples (take (length c) t) c) side ≡ is_lt (order_of_ends t Below c side)
before_ends [] [] Below fits = refl
before_ends [] [] Above fits = refl
before_ends (x ∷ t) [] Below fits = refl
before_ends (x ∷ t) [] Above fits = refl
before_ends [] (y ∷ c) side fits = absurd (omega arith)
before_ends (x ∷ t) (y ∷ c) side fits =
    elim (order_of x y) as (λ first. is_before_side (ordering_then first (order_of_tuples (take (length c) t) c)) side ≡ is_lt (ordering_then first (order_of_ends t Below c side))) [
      | Less ↦ refl
      | Equal ↦ before_ends t c side (omega arith)
      | Greater ↦ refl
    ]

-- A tuple lies before a cut that isn't longer exactly where the cut below the tuple comes before it.
pub before_as_order : (t : List Value) (c : Cut) → length c.tuple ≤ length t → is_before t c ≡ is_lt (order_of_cuts (below t) c)
before_as_order t c fits = before_ends t c.tuple c.side fits

pub lt_less : (order : Ordering) → is_lt order ≡ true → order ≡ Less
lt_less Less is = refl
lt_less Equal is = cc
lt_less Greater is = cc

pub not_greater : (order : Ordering) → order ≢ Greater → is_gt order ≡ false
not_greater Less other = refl
not_greater Equal other = refl
not_greater Greater other = absurd (other refl)

lt_le_at : {K : Type 0} {R : K → K → Ordering} → IsTotalOrder R → (x y z : K) (second : Ordering) → R x y ≡ Less → R y z ≡ second → is_gt second ≡ false → R x z ≡ Less
lt_le_at total x y z Less first second not_behind = total.trans x y z first second
lt_le_at total x y z Equal first second not_behind = sym (alike_right total y z x second) ∙ first
lt_le_at total x y z Greater first second not_behind = cc

-- what comes before what isn't behind a third comes before the third
pub lt_le : {K : Type 0} {R : K → K → Ordering} → IsTotalOrder R → (x y z : K) → R x y ≡ Less → is_gt (R y z) ≡ false → R x z ≡ Less
lt_le {R = R} total x y z first not_behind = lt_le_at total x y z (R y z) first refl not_behind

le_lt_at : {K : Type 0} {R : K → K → Ordering} → IsTotalOrder R → (x y z : K) (first : Ordering) → R x y ≡ first → is_gt first ≡ false → R y z ≡ Less → R x z ≡ Less
le_lt_at total x y z Less first not_behind second = total.trans x y z first second
le_lt_at total x y z Equal first not_behind second = total.congr x y z first ∙ second
le_lt_at total x y z Greater first not_behind second = cc

-- what isn't behind what comes before a third comes before the third
pub le_lt : {K : Type 0} {R : K → K → Ordering} → IsTotalOrder R → (x y z : K) → is_gt (R x y) ≡ false → R y z ≡ Less → R x z ≡ Less
le_lt {R = R} total x y z not_behind second = le_lt_at total x y z (R x y) refl not_behind second

-- A tuple that lies before a cut lies before each cut that doesn't come before that one.
pub before_rises : IsTotalOrder order_of → (t : List Value) (c d : Cut) → length c.tuple ≤ length t → length d.tuple ≤ length t → order_of_cuts c d ≢ Greater → IsBefore t c → IsBefore t d
before_rises total t c d fits other_fits rises before =
    let first : order_of_cuts (below t) c ≡ Less = lt_less (order_of_cuts (below t) c) (sym (before_as_order t c fits) ∙ before) in
    let all : order_of_cuts (below t) d ≡ Less = lt_le (order_of_cuts-total total) (below t) c d first (not_greater (order_of_cuts c d) rises) in
    before_as_order t d other_fits ∙ ap is_lt all

-- Canonical forms

again_before : (value : Value) (values : List Value) → without_last_nulls values ≡ values → without_last_nulls (kept_before value values) ≡ kept_before value values
again_before Null [] same = refl
again_before Null (x ∷ values) same = ap (kept_before Null) same
again_before (Int number) values same = ap (kept_before (Int number)) same
again_before (Big number) values same = ap (kept_before (Big number)) same
again_before (Text bytes) values same = ap (kept_before (Text bytes)) same

without_last_nulls-again : (values : List Value) → without_last_nulls (without_last_nulls values) ≡ without_last_nulls values
without_last_nulls-again [] = refl
without_last_nulls-again (value ∷ values) = again_before value (without_last_nulls values) (without_last_nulls-again values)

canonical_tuple-again : (side : Side) (values : List Value) → canonical_tuple side (canonical_tuple side values) ≡ canonical_tuple side values
canonical_tuple-again Below values = without_last_nulls-again values
canonical_tuple-again Above values = refl

-- A canonical form is canonical.
pub canonical_cut-again : (cut : Cut) → IsCanonicalCut (canonical_cut cut)
canonical_cut-again cut =
    let with_side : List Value → Cut = λ tuple. record { tuple = tuple; side = cut.side } in
    ap with_side (canonical_tuple-again cut.side cut.tuple)

kept_before-length : (value : Value) (values : List Value) → length (kept_before value values) ≤ suc (length values)
kept_before-length Null [] = omega arith
kept_before-length Null (x ∷ values) = omega arith
kept_before-length (Int number) values = omega arith
kept_before-length (Big number) values = omega arith
kept_before-length (Text bytes) values = omega arith

without_last_nulls-length : (values : List Value) → length (without_last_nulls values) ≤ length values
without_last_nulls-length [] = omega arith
without_last_nulls-length (value ∷ values) = omega (arith, kept_before-length value (without_last_nulls values), without_last_nulls-length values)

canonical_tuple-length : (side : Side) (values : List Value) → length (canonical_tuple side values) ≤ length values
canonical_tuple-length Below values = without_last_nulls-length values
canonical_tuple-length Above values = omega arith

-- A canonical form isn't longer.
pub canonical_cut-length : (cut : Cut) → length (canonical_cut cut).tuple ≤ length cut.tuple
canonical_cut-length cut = canonical_tuple-length cut.side cut.tuple

push_null : (values : List Value) → without_last_nulls (values ++ Null ∷ []) ≡ without_last_nulls values
push_null [] = refl
push_null (value ∷ values) = ap (kept_before value) (push_null values)

kept_value : (value next : Value) (values : List Value) → kept_before value (values ++ next ∷ []) ≡ value ∷ values ++ next ∷ []
kept_value Null next [] = refl
kept_value Null next (x ∷ values) = refl
kept_value (Int number) next values = refl
kept_value (Big number) next values = refl
kept_value (Text bytes) next values = refl

alone : (value : Value) → value ≢ Null → kept_before value [] ≡ value ∷ []
alone Null other = absurd (other refl)
alone (Int number) other = refl
alone (Big number) other = refl
alone (Text bytes) other = refl

push_value : (values : List Value) (value : Value) → value ≢ Null → without_last_nulls (values ++ value ∷ []) ≡ values ++ value ∷ []
push_value [] value other = alone value other
push_value (first ∷ values) value other = ap (kept_before first) (push_value values value other) ∙ kept_value first value values

-- NULL is dropped, so as much stays
pub null_dropped : (values : List Value) (i kept : ℕ) (d : Value) → i < length values → get_or values i d ≡ Null → take kept values ≡ without_last_nulls (take i values) → take kept values ≡ without_last_nulls (take (i + 1) values)
null_dropped values i kept d here null before =
    before ∙ sym (push_null (take i values)) ∙ ap without_last_nulls (ap (λ value. take i values ++ value ∷ []) (sym null) ∙ sym (take_more values i d here))

-- another value stays
pub value_kept : (values : List Value) (i : ℕ) (d : Value) → i < length values → get_or values i d ≢ Null → take (i + 1) values ≡ without_last_nulls (take (i + 1) values)
value_kept values i d here other =
    let more : take (i + 1) values ≡ take i values ++ get_or values i d ∷ [] = take_more values i d here in
    more ∙ sym (push_value (take i values) (get_or values i d) other) ∙ ap without_last_nulls (sym more)

-- A tuple and its canonical cut against canonical forms

behind_first : (first one other : Ordering) → is_lt one ≡ is_lt other → is_lt (ordering_then first one) ≡ is_lt (ordering_then first other)
behind_first Less one other same = refl
behind_first Equal one other same = same
behind_first Greater one other same = refl

after_empty : (v : Value) (a : List Value) → is_lt (order_of_ends (kept_before v a) Below [] Below) ≡ false
after_empty Null [] = refl
after_empty Null (x ∷ a) = refl
after_empty (Int v) a = refl
after_empty (Big v) a = refl
after_empty (Text v) a = refl

before_empty : (v : Value) (a : List Value) → is_lt (order_of_ends (kept_before v a) Below [] Above) ≡ true
before_empty Null [] = refl
before_empty Null (x ∷ a) = refl
before_empty (Int v) a = refl
before_empty (Big v) a = refl
before_empty (Text v) a = refl

first_parts : (v d : Value) (a b : List Value) (rest : Ordering) → is_lt (order_of_ends a Below b Below) ≡ is_lt rest → is_lt (order_of_ends (kept_before v a) Below (kept_before d b) Below) ≡ is_lt (ordering_then (order_of v d) rest)
first_parts Null Null [] [] rest same = same
first_parts Null Null [] (y ∷ b) rest same = same
first_parts Null Null (x ∷ a) [] rest same = same
first_parts Null Null (x ∷ a) (y ∷ b) rest same = same
first_parts Null (Int d) [] b rest same = refl
first_parts Null (Int d) (x ∷ a) b rest same = refl
first_parts Null (Big d) [] b rest same = refl
first_parts Null (Big d) (x ∷ a) b rest same = refl
first_parts Null (Text d) [] b rest same = refl
first_parts Null (Text d) (x ∷ a) b rest same = refl
first_parts (Int v) Null a [] rest same = refl
first_parts (Int v) Null a (y ∷ b) rest same = refl
first_parts (Big v) Null a [] rest same = refl
first_parts (Big v) Null a (y ∷ b) rest same = refl
first_parts (Text v) Null a [] rest same = refl
first_parts (Text v) Null a (y ∷ b) rest same = refl
first_parts (Int v) (Int d) a b rest same = behind_first (order_of (Int v) (Int d)) (order_of_ends a Below b Below) rest same
first_parts (Int v) (Big d) a b rest same = behind_first (order_of (Int v) (Big d)) (order_of_ends a Below b Below) rest same
first_parts (Int v) (Text d) a b rest same = refl
first_parts (Big v) (Int d) a b rest same = behind_first (order_of (Big v) (Int d)) (order_of_ends a Below b Below) rest same
first_parts (Big v) (Big d) a b rest same = behind_first (order_of (Big v) (Big d)) (order_of_ends a Below b Below) rest same
first_parts (Big v) (Text d) a b rest same = refl
first_parts (Text v) (Int d) a b rest same = refl
first_parts (Text v) (Big d) a b rest same = refl
first_parts (Text v) (Text d) a b rest same = behind_first (order_of (Text v) (Text d)) (order_of_ends a Below b Below) rest same

first_parts_above : (v d : Value) (a b : List Value) (rest : Ordering) → is_lt (order_of_ends a Below b Above) ≡ is_lt rest → is_lt (order_of_ends (kept_before v a) Below (d ∷ b) Above) ≡ is_lt (ordering_then (order_of v d) rest)
first_parts_above Null Null [] [] rest same = same
first_parts_above Null Null [] (y ∷ b) rest same = same
first_parts_above Null Null (x ∷ a) b rest same = same
first_parts_above Null (Int d) [] b rest same = refl
first_parts_above Null (Int d) (x ∷ a) b rest same = refl
first_parts_above Null (Big d) [] b rest same = refl
first_parts_above Null (Big d) (x ∷ a) b rest same = refl
first_parts_above Null (Text d) [] b rest same = refl
first_parts_above Null (Text d) (x ∷ a) b rest same = refl
first_parts_above (Int v) d a b rest same = behind_first (order_of (Int v) d) (order_of_ends a Below b Above) rest same
first_parts_above (Big v) d a b rest same = behind_first (order_of (Big v) d) (order_of_ends a Below b Above) rest same
first_parts_above (Text v) d a b rest same = behind_first (order_of (Text v) d) (order_of_ends a Below b Above) rest same

in_front : (t c : List Value) (side : Side) → length c ≤ length t → is_lt (order_of_ends (without_last_nulls t) Below (canonical_tuple side c) side) ≡ is_lt (order_of_ends t Below c side)
in_front [] [] Below fits = refl
in_front [] [] Above fits = refl
in_front [] (d ∷ c) side fits = absurd (omega arith)
in_front (v ∷ t) [] Below fits = after_empty v (without_last_nulls t)
in_front (v ∷ t) [] Above fits = before_empty v (without_last_nulls t)
in_front (v ∷ t) (d ∷ c) Below fits = first_parts v d (without_last_nulls t) (without_last_nulls c) (order_of_ends t Below c Below) (in_front t c Below (omega arith))
in_front (v ∷ t) (d ∷ c) Above fits = first_parts_above v d (without_last_nulls t) c (order_of_ends t Below c Above) (in_front t c Above (omega arith))

-- The canonical cut below a tuple comes before the canonical form of a cut that isn't longer exactly
-- where the tuple lies before the cut.
pub canonical_in_front : (t : List Value) (c : Cut) → length c.tuple ≤ length t → is_lt (order_of_cuts (canonical_cut (below t)) (canonical_cut c)) ≡ is_before t c
canonical_in_front t c fits = in_front t c.tuple c.side fits ∙ sym (before_as_order t c fits)

-- The same tuples lie before a cut and before its canonical form.
pub canonical_before : (t : List Value) (c : Cut) → length c.tuple ≤ length t → is_before t (canonical_cut c) ≡ is_before t c
canonical_before t c fits =
    let shorter : length (canonical_cut c).tuple ≤ length t = omega (arith, canonical_cut-length c) in
    sym (canonical_in_front t (canonical_cut c) shorter)
    ∙ ap (λ form. is_lt (order_of_cuts (canonical_cut (below t)) form)) (canonical_cut-again c)
    ∙ canonical_in_front t c fits

-- A tuple lies in a range whose cuts aren't longer exactly where the canonical cut below it does.
pub tuple_as_cut : (t : List Value) (range : KeyRange) → length range.from.tuple ≤ length t → length range.to.tuple ≤ length t → is_cut_in range (canonical_cut (below t)) ≡ is_tuple_in range t
tuple_as_cut t range from_fits to_fits =
    ap (λ before. not before && is_lt (order_of_cuts (canonical_cut (below t)) (canonical_cut range.to))) (canonical_in_front t range.from from_fits)
    ∙ ap (λ before. not (is_before t range.from) && before) (canonical_in_front t range.to to_fits)
