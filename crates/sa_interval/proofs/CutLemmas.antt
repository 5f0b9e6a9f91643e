-- Which cuts lie in a range, by the total order of cuts.
use Rattle.std.proofs.Common.{◌≡◌, Bool, true, false, not, ◌&&◌, ◌||◌, cond, refl, sym, ◌∙◌, ap}
use Rattle.std.proofs.lemmas.Cmp.{tied_itself, upto}
use Rattle.std.specs.Cmp.{IsTotalOrder}
use Rattle.std.specs.Ordering.{is_ge, is_gt, is_le, is_lt, ordering_reverse}
use Rattle.std.specs.declared.cmp.Ordering.{Ordering}
use Rattle.std.specs.declared.cmp.Ordering.TheVariants.{Less, Equal, Greater}
use Rattle.sa_key.specs.declared.cut.Cut.{Cut}
use Rattle.sa_key.specs.declared.range.KeyRange.{KeyRange}
use Rattle.sa_key.specs.Range.{IsCanonicalCut, canonical_cut, is_cut_in, order_of_cuts}
use Rattle.sa_key.proofs.RangeLemmas.{lt_le, lt_less}
use Rattle.sa_interval.specs.inner.Growing.{IsUpto, earlier, later}

abbrev pub IsTotal : Type 0
IsTotal = IsTotalOrder order_of_cuts

pub upto_self : IsTotal → (x : Cut) → IsUpto x x
upto_self total x = ap is_gt (tied_itself total x)

pub upto_then : IsTotal → (x y z : Cut) → IsUpto x y → IsUpto y z → IsUpto x z
upto_then total x y z first second = upto total x y z first second

not_lt_back : (order : Ordering) → is_lt order ≡ false → is_gt (ordering_reverse order) ≡ false
not_lt_back Less behind = cc
not_lt_back Equal behind = refl
not_lt_back Greater behind = refl

-- what doesn't come before a cut isn't passed by it
pub upto_back : IsTotal → (x y : Cut) → is_lt (order_of_cuts x y) ≡ false → IsUpto y x
upto_back total x y behind = ap is_gt (total.antisymm y x) ∙ not_lt_back (order_of_cuts x y) behind

pub upto_lt : (x y : Cut) → is_lt (order_of_cuts x y) ≡ true → IsUpto x y
upto_lt x y before = ap is_gt (lt_less (order_of_cuts x y) before)

-- what comes before a cut comes before each that isn't in front of it
pub lt_up : IsTotal → (c x y : Cut) → IsUpto x y → is_lt (order_of_cuts c x) ≡ true → is_lt (order_of_cuts c y) ≡ true
lt_up total c x y upto before = ap is_lt (lt_le total c x y (lt_less (order_of_cuts c x) before) upto)

-- whether a cut lies from one to another
abbrev pub within : Cut → Cut → Cut → Bool
within from to cut = not (is_lt (order_of_cuts cut from)) && is_lt (order_of_cuts cut to)

pub cut_in : (range : KeyRange) (cut : Cut) → IsCanonicalCut range.from → IsCanonicalCut range.to → is_cut_in range cut ≡ within range.from range.to cut
cut_in range cut from to =
    ap (λ start. within start (canonical_cut range.to) cut) from
    ∙ ap (λ stop. within range.from stop cut) to

none : (a b : Bool) → (b ≡ true → a ≡ true) → (not a && b) ≡ false
none true b back = refl
none false true back = cc (back refl)
none false false back = refl

pub none_within : IsTotal → (from to c : Cut) → is_lt (order_of_cuts from to) ≡ false → within from to c ≡ false
none_within total from to c empty =
    none (is_lt (order_of_cuts c from)) (is_lt (order_of_cuts c to))
    (lt_up total c to from (upto_back total from to empty))

-- a cut before the range isn't in it
pub none_before : (from to c : Cut) → is_lt (order_of_cuts c from) ≡ true → within from to c ≡ false
none_before from to c before = ap (λ first. not first && is_lt (order_of_cuts c to)) before

-- Two ranges that overlap or touch, as one

to_second : (a b p q : Bool) → (a ≡ true → b ≡ true) → (b ≡ true → p ≡ true) → (p ≡ true → q ≡ true) → (not a && q) ≡ ((not a && p) || (not b && q))
to_second true true p q f g h = refl
to_second true false p q f g h = cc (f refl)
to_second false b true true f g h = refl
to_second false b true false f g h = cc (h refl)
to_second false true false q f g h = cc (g refl)
to_second false false false q f g h = refl

to_first : (a b p q : Bool) → (a ≡ true → b ≡ true) → (q ≡ true → p ≡ true) → (not a && p) ≡ ((not a && p) || (not b && q))
to_first true true p q f h = refl
to_first true false p q f h = cc (f refl)
to_first false b true q f h = refl
to_first false b false true f h = cc (h refl)
to_first false true false false f h = refl
to_first false false false false f h = refl

joined_at : IsTotal → (f t g u c : Cut) (which : Bool) → is_lt (order_of_cuts t u) ≡ which → IsUpto f g → IsUpto g t → within f (cond which u t) c ≡ (within f t c || within g u c)
joined_at total f t g u c true is rises meets =
    to_second (is_lt (order_of_cuts c f)) (is_lt (order_of_cuts c g)) (is_lt (order_of_cuts c t)) (is_lt (order_of_cuts c u))
    (lt_up total c f g rises) (lt_up total c g t meets) (lt_up total c t u (upto_lt t u is))
joined_at total f t g u c false is rises meets =
    to_first (is_lt (order_of_cuts c f)) (is_lt (order_of_cuts c g)) (is_lt (order_of_cuts c t)) (is_lt (order_of_cuts c u))
    (lt_up total c f g rises) (lt_up total c u t (upto_back total t u is))

pub joined_in : IsTotal → (f t g u c : Cut) → IsUpto f g → IsUpto g t → within f (later t u) c ≡ (within f t c || within g u c)
joined_in total f t g u c rises meets = joined_at total f t g u c (is_lt (order_of_cuts t u)) refl rises meets

-- What is in two ranges

not_first : (a b : Bool) → (a ≡ true → b ≡ true) → not b ≡ (not a && not b)
not_first true true f = refl
not_first true false f = cc (f refl)
not_first false b f = refl

not_second : (a b : Bool) → (b ≡ true → a ≡ true) → not a ≡ (not a && not b)
not_second true b f = refl
not_second false true f = cc (f refl)
not_second false false f = refl

start_at : IsTotal → (f g c : Cut) (which : Bool) → is_lt (order_of_cuts f g) ≡ which → not (is_lt (order_of_cuts c (cond which g f))) ≡ (not (is_lt (order_of_cuts c f)) && not (is_lt (order_of_cuts c g)))
start_at total f g c true is = not_first (is_lt (order_of_cuts c f)) (is_lt (order_of_cuts c g)) (lt_up total c f g (upto_lt f g is))
start_at total f g c false is = not_second (is_lt (order_of_cuts c f)) (is_lt (order_of_cuts c g)) (lt_up total c g f (upto_back total f g is))

less_first : (p q : Bool) → (q ≡ true → p ≡ true) → q ≡ (p && q)
less_first true q f = refl
less_first false true f = cc (f refl)
less_first false false f = refl

less_second : (p q : Bool) → (p ≡ true → q ≡ true) → p ≡ (p && q)
less_second true true f = refl
less_second true false f = cc (f refl)
less_second false q f = refl

stop_at : IsTotal → (t u c : Cut) (which : Bool) → is_lt (order_of_cuts u t) ≡ which → is_lt (order_of_cuts c (cond which u t)) ≡ (is_lt (order_of_cuts c t) && is_lt (order_of_cuts c u))
stop_at total t u c true is = less_first (is_lt (order_of_cuts c t)) (is_lt (order_of_cuts c u)) (lt_up total c u t (upto_lt u t is))
stop_at total t u c false is = less_second (is_lt (order_of_cuts c t)) (is_lt (order_of_cuts c u)) (lt_up total c t u (upto_back total u t is))

exchange : (a b p q : Bool) → ((a && b) && (p && q)) ≡ ((a && p) && (b && q))
exchange false b p q = refl
exchange true true p q = refl
exchange true false true q = refl
exchange true false false q = refl

pub common_in : IsTotal → (f t g u c : Cut) → within (later f g) (earlier t u) c ≡ (within f t c && within g u c)
common_in total f t g u c =
    ap (λ start. start && is_lt (order_of_cuts c (earlier t u))) (start_at total f g c (is_lt (order_of_cuts f g)) refl)
    ∙ ap (λ stop. (not (is_lt (order_of_cuts c f)) && not (is_lt (order_of_cuts c g))) && stop) (stop_at total t u c (is_lt (order_of_cuts u t)) refl)
    ∙ exchange (not (is_lt (order_of_cuts c f))) (not (is_lt (order_of_cuts c g))) (is_lt (order_of_cuts c t)) (is_lt (order_of_cuts c u))

-- The later and the earlier of two cuts

one_of : (P : Cut → Type 0) (a b : Cut) (which : Bool) → P a → P b → P (cond which b a)
one_of P a b true first second = second
one_of P a b false first second = first

pub later_is : (P : Cut → Type 0) (a b : Cut) → P a → P b → P (later a b)
later_is P a b first second = one_of P a b (is_lt (order_of_cuts a b)) first second

pub earlier_is : (P : Cut → Type 0) (a b : Cut) → P a → P b → P (earlier a b)
earlier_is P a b first second = one_of P a b (is_lt (order_of_cuts b a)) first second

first_upto_at : IsTotal → (a b : Cut) (which : Bool) → is_lt (order_of_cuts a b) ≡ which → IsUpto a (cond which b a)
first_upto_at total a b true is = upto_lt a b is
first_upto_at total a b false is = upto_self total a

pub first_upto : IsTotal → (a b : Cut) → IsUpto a (later a b)
first_upto total a b = first_upto_at total a b (is_lt (order_of_cuts a b)) refl

second_upto_at : IsTotal → (a b : Cut) (which : Bool) → is_lt (order_of_cuts a b) ≡ which → IsUpto b (cond which b a)
second_upto_at total a b true is = upto_self total b
second_upto_at total a b false is = upto_back total a b is

pub second_upto : IsTotal → (a b : Cut) → IsUpto b (later a b)
second_upto total a b = second_upto_at total a b (is_lt (order_of_cuts a b)) refl

-- Tests of an order

pub ge_not_lt : (order : Ordering) → is_ge order ≡ true → is_lt order ≡ false
ge_not_lt Less is = cc
ge_not_lt Equal is = refl
ge_not_lt Greater is = refl

pub not_ge_lt : (order : Ordering) → is_ge order ≡ false → is_lt order ≡ true
not_ge_lt Less is = refl
not_ge_lt Equal is = cc
not_ge_lt Greater is = cc

pub le_not_gt : (order : Ordering) → is_le order ≡ true → is_gt order ≡ false
le_not_gt Less is = refl
le_not_gt Equal is = refl
le_not_gt Greater is = cc

pub not_le_back : (order : Ordering) → is_le order ≡ false → is_le (ordering_reverse order) ≡ true
not_le_back Less is = cc
not_le_back Equal is = cc
not_le_back Greater is = refl
