-- Comparisons of values by their numbers of 64 bits, and of values by their kinds.
use Rattle.std.proofs.Common.{◌≡◌, ℤ, Bool, true, false, Some, None, refl, sym, subst, ◌∙◌, if◌then◌else◌}
use Rattle.sa_value.specs.declared.truth.CompareOp.{CompareOp}
use Rattle.sa_value.specs.declared.truth.CompareOp.TheVariants.{Eq, NullEq, Ne, Lt, Le, Gt, Ge}
use Rattle.sa_value.specs.declared.value.Value.{Value}
use Rattle.sa_value.specs.declared.value.Value.TheVariants.{Null, Int, Big, Text}
use Rattle.sa_value.specs.Compare.{truth_of, CanCompare}
use Rattle.sa_cond.specs.declared.expr.Expr.{Expr}
use Rattle.sa_cond.specs.Choice.{Choice}
use Rattle.sa_cond.specs.Cited.{CanEvaluate}
use Rattle.sa_cond.specs.Condition.{is_null}
use Rattle.sa_cond.specs.Expression.{number_of, expr_value}
use Rattle.sa_cond.specs.Interval.{ExprKind, number, sum, text, null, faulty, is_bigint, expr_kind}
use Rattle.sa_cond.specs.Typed.{is_proper, can_compare}
use Rattle.sa_cond.specs.Within.{IsNullOrIn}
use Rattle.sa_cond.specs.inner.Small.{small_number}
use Rattle.sa_cond.specs.inner.Compared.{CanRelate}
use Rattle.sa_cond.proofs.IntervalLemmas.{IsNoText, HasKind, value_has_kind}

-- a value that has a 64-bit number is that number
abbrev IsNumber : Value → ℤ → Type 0
IsNumber Null a = ⊥
IsNumber (Int value) a = value ≡ a
IsNumber (Big value) a = value ≡ a
IsNumber (Text value) a = ⊥

chosen : (b : Bool) (value a : ℤ) → (if b then Some value else None) ≡ Some a → value ≡ a
chosen true value a e = cc
chosen false value a e = cc

number_is : (value : Value) (a : ℤ) → small_number value ≡ Some a → IsNumber value a
number_is Null a e = cc
number_is (Int value) a e = cc
number_is (Big value) a e = chosen (is_bigint value) value a e
number_is (Text value) a e = cc

-- a sum compares as the number that it is
int_big : (op : CompareOp) (x y : ℤ) → truth_of op (Int x) (Big y) ≡ truth_of op (Int x) (Int y)
int_big Eq x y = refl
int_big NullEq x y = refl
int_big Ne x y = refl
int_big Lt x y = refl
int_big Le x y = refl
int_big Gt x y = refl
int_big Ge x y = refl

big_int : (op : CompareOp) (x y : ℤ) → truth_of op (Big x) (Int y) ≡ truth_of op (Int x) (Int y)
big_int Eq x y = refl
big_int NullEq x y = refl
big_int Ne x y = refl
big_int Lt x y = refl
big_int Le x y = refl
big_int Gt x y = refl
big_int Ge x y = refl

big_big : (op : CompareOp) (x y : ℤ) → truth_of op (Big x) (Big y) ≡ truth_of op (Int x) (Int y)
big_big Eq x y = refl
big_big NullEq x y = refl
big_big Ne x y = refl
big_big Lt x y = refl
big_big Le x y = refl
big_big Gt x y = refl
big_big Ge x y = refl

truth-number : (op : CompareOp) (x y : Value) (a b : ℤ) → IsNumber x a → IsNumber y b → truth_of op x y ≡ truth_of op (Int a) (Int b)
truth-number op Null y a b left right = absurd left
truth-number op (Int x) Null a b left right = absurd right
truth-number op (Int x) (Int y) a b left right = rw (left, right) refl
truth-number op (Int x) (Big y) a b left right = int_big op x y ∙ rw (left, right) refl
truth-number op (Int x) (Text y) a b left right = absurd right
truth-number op (Big x) Null a b left right = absurd right
truth-number op (Big x) (Int y) a b left right = big_int op x y ∙ rw (left, right) refl
truth-number op (Big x) (Big y) a b left right = big_big op x y ∙ rw (left, right) refl
truth-number op (Big x) (Text y) a b left right = absurd right
truth-number op (Text x) y a b left right = absurd left

-- two values that have 64-bit numbers compare as these do
pub truth-small : (op : CompareOp) (x y : Value) (a b : ℤ) → Some a ≡ small_number x → Some b ≡ small_number y → truth_of op (Int a) (Int b) ≡ truth_of op x y
truth-small op x y a b left right = sym (truth-number op x y a b (number_is x a (sym left)) (number_is y b (sym right)))

-- what has a 64-bit number isn't NULL
pub is_null-small : (x : Value) (a : ℤ) → Some a ≡ small_number x → false ≡ is_null x
is_null-small Null a e = cc
is_null-small (Int x) a e = refl
is_null-small (Big x) a e = refl
is_null-small (Text x) a e = refl

-- two kinds that can be compared are both proper
pub proper_left : (x y : ExprKind) → can_compare x y ≡ true → is_proper x ≡ true
proper_left (number interval) y e = refl
proper_left sum y e = refl
proper_left text y e = refl
proper_left null y e = refl
proper_left faulty y e = e

pub proper_right : (x y : ExprKind) → can_compare x y ≡ true → is_proper y ≡ true
proper_right x (number interval) e = refl
proper_right x sum e = refl
proper_right x text e = refl
proper_right x null e = refl
proper_right (number interval) faulty e = e
proper_right sum faulty e = e
proper_right text faulty e = e
proper_right null faulty e = e
proper_right faulty faulty e = e

no_text : (interval : _) (x : Value) → IsNullOrIn interval x → IsNoText x
no_text interval Null is = tt
no_text interval (Int x) is = tt
no_text interval (Big x) is = tt
no_text interval (Text x) is = is

compare_numbers : (x y : Value) → IsNoText x → IsNoText y → CanCompare x y
compare_numbers Null y left right = tt
compare_numbers (Int x) Null left right = tt
compare_numbers (Int x) (Int y) left right = tt
compare_numbers (Int x) (Big y) left right = tt
compare_numbers (Int x) (Text y) left right = right
compare_numbers (Big x) Null left right = tt
compare_numbers (Big x) (Int y) left right = tt
compare_numbers (Big x) (Big y) left right = tt
compare_numbers (Big x) (Text y) left right = right
compare_numbers (Text x) y left right = absurd left

compare_texts : (x y : Value) → number_of x ≡ None → number_of y ≡ None → CanCompare x y
compare_texts Null y left right = tt
compare_texts (Int x) y left right = cc
compare_texts (Big x) y left right = cc
compare_texts (Text x) Null left right = tt
compare_texts (Text x) (Int y) left right = cc
compare_texts (Text x) (Big y) left right = cc
compare_texts (Text x) (Text y) left right = tt

compare_left : (x y : Value) → x ≡ Null → CanCompare x y
compare_left x y is = subst (λ x. CanCompare x y) (sym is) tt

compare_right : (x y : Value) → y ≡ Null → CanCompare x y
compare_right Null y is = tt
compare_right (Int x) y is = subst (CanCompare (Int x)) (sym is) tt
compare_right (Big x) y is = subst (CanCompare (Big x)) (sym is) tt
compare_right (Text x) y is = subst (CanCompare (Text x)) (sym is) tt

-- values of kinds that can be compared can be compared
pub CanCompare-kinds : (k l : ExprKind) (x y : Value) → can_compare k l ≡ true → HasKind k x → HasKind l y → CanCompare x y
CanCompare-kinds (number i) (number j) x y e left right = compare_numbers x y (no_text i x left.0) (no_text j y right.0)
CanCompare-kinds (number i) sum x y e left right = compare_numbers x y (no_text i x left.0) right
CanCompare-kinds (number i) text x y e left right = cc
CanCompare-kinds (number i) null x y e left right = compare_right x y right
CanCompare-kinds (number i) faulty x y e left right = cc
CanCompare-kinds sum (number j) x y e left right = compare_numbers x y left (no_text j y right.0)
CanCompare-kinds sum sum x y e left right = compare_numbers x y left right
CanCompare-kinds sum text x y e left right = cc
CanCompare-kinds sum null x y e left right = compare_right x y right
CanCompare-kinds sum faulty x y e left right = cc
CanCompare-kinds text (number j) x y e left right = cc
CanCompare-kinds text sum x y e left right = cc
CanCompare-kinds text text x y e left right = compare_texts x y left right
CanCompare-kinds text null x y e left right = compare_right x y right
CanCompare-kinds text faulty x y e left right = cc
CanCompare-kinds null l x y e left right = compare_left x y left
CanCompare-kinds faulty l x y e left right = cc

pub CanCompare-same : (x y x' y' : Value) → x' ≡ x → y' ≡ y → CanCompare x y → CanCompare x' y'
CanCompare-same x y x' y' left right can = subst (λ y. CanCompare x' y) (sym right) (subst (λ x. CanCompare x y) (sym left) can)

-- Expressions that can be compared can be evaluated, and their values can be compared.
pub left_can : (choice : Choice) (left right : Expr) → CanRelate choice left right → CanEvaluate choice left
left_can choice left right can =
    record { kinds = can.kinds; met = can.left_met; typed = proper_left (expr_kind can.kinds left) (expr_kind can.kinds right) can.typed }

pub right_can : (choice : Choice) (left right : Expr) → CanRelate choice left right → CanEvaluate choice right
right_can choice left right can =
    record { kinds = can.kinds; met = can.right_met; typed = proper_right (expr_kind can.kinds left) (expr_kind can.kinds right) can.typed }

pub CanCompare-values : (choice : Choice) (left right : Expr) → CanRelate choice left right → CanCompare (expr_value choice left) (expr_value choice right)
CanCompare-values choice left right can =
    CanCompare-kinds (expr_kind can.kinds left) (expr_kind can.kinds right) (expr_value choice left) (expr_value choice right) can.typed
    (value_has_kind can.kinds choice left can.left_met) (value_has_kind can.kinds choice right can.right_met)
