-- How the 64-bit number of an expression comes from those of its operands.
use lib.Signed.{le_z_yes}
use Rattle.std.proofs.Math.IntN.{+ℤ_idl}
use Rattle.std.proofs.Common.{◌≡◌, ℕ, ℤ, ◌-ℤ◌, neg_ℤ, ◌≤ℤ◌, Bool, true, false, int_le, T, pos, negsuc, if◌then◌else◌, ◌++◌, All, Option, Some, None, option_map, refl, sym, subst, ◌∙◌, ap, arith}
use Rattle.std.proofs.lemmas.Int.{ints, to_z-of_z}
use mir.Syntax.{w64}
use mir.Val.{SFits, to_z, of_z}
use Rattle.sa_value.specs.declared.value.Value.{Value}
use Rattle.sa_value.specs.declared.value.Value.TheVariants.{Null, Int, Big, Text}
use Rattle.sa_cond.specs.declared.expr.Expr.{Expr}
use Rattle.sa_cond.specs.declared.expr.Expr.TheVariants as node
use Rattle.sa_cond.specs.Choice.{Choice}
use Rattle.sa_cond.specs.Cited.{Name, column, slot, expr_names, MeetsName, CanEvaluate}
use Rattle.sa_cond.specs.Expression.{number_of, number_or_null, both, expr_value}
use Rattle.sa_cond.specs.Interval.{Interval, ExprKind, number, sum, text, null, faulty, least_bigint, greatest_bigint, is_bigint, is_within, number_within, negated, interval_of, reached, of_both, expr_kind}
use Rattle.sa_cond.specs.Typed.{is_proper}
use Rattle.sa_cond.specs.Within.{IsIn, IsNullOrIn}
use Rattle.sa_cond.specs.inner.Small.{small_number}
use Rattle.sa_cond.proofs.IntervalLemmas.{HasKind, HasKind-interval, InEach, IsOperation, negated_sound, value_has_kind}
use Rattle.sa_cond.proofs.Forms.{kind-Negate, value-Negate, names-Negate, names-Column, names-Slot}
use Rattle.sa_cond.proofs.Lists.{All-left, All-right, All-one, both_true}

proper_test : (interval : Interval) (b : Bool) → is_proper (if b then number interval else faulty) ≡ true → b ≡ true
proper_test interval true e = refl
proper_test interval false e = e

-- what arithmetic reaches is within the range of BIGINT
pub within_reached : (interval : Interval) → is_proper (number_within interval) ≡ true → is_within interval ≡ true
within_reached interval e = proper_test interval (is_within interval) e

le_from_test : (a b : ℤ) → int_le a b ≡ true → a ≤ℤ b
le_from_test a b e = le_z_yes (subst T (sym e) tt)

test_from_le : (a b : ℤ) → a ≤ℤ b → int_le a b ≡ true
test_from_le a b is = grind (arith, ints)

-- the ends of an interval within the range of BIGINT
pub ends : (interval : Interval) → is_within interval ≡ true → (least_bigint ≤ℤ interval.least) × (interval.greatest ≤ℤ greatest_bigint)
ends interval e =
    let tests = both_true (is_bigint interval.least) (is_bigint interval.greatest) e in
    let least = both_true (int_le least_bigint interval.least) (int_le interval.least greatest_bigint) tests.0 in
    let greatest = both_true (int_le least_bigint interval.greatest) (int_le interval.greatest greatest_bigint) tests.1 in
    (le_from_test least_bigint interval.least least.0, le_from_test interval.greatest greatest_bigint greatest.1)

-- a number of the range of BIGINT is one of 64 bits
pub SFits-bigint : (value : ℤ) → least_bigint ≤ℤ value → value ≤ℤ greatest_bigint → SFits w64 value
SFits-bigint (pos n) low high = record { sfits = omega (arith, ints) }
SFits-bigint (negsuc n) low high = record { sfits = omega (arith, ints) }

-- and so is a number of an interval within it
pub SFits-within : (interval : Interval) (value : ℤ) → is_within interval ≡ true → IsIn interval value → SFits w64 value
SFits-within interval value e is = let low_high = ends interval e in SFits-bigint value (omega (arith, ints, low_high.0, is.from)) (omega (arith, ints, low_high.1, is.to))

pub small_test : (value : ℤ) → least_bigint ≤ℤ value → value ≤ℤ greatest_bigint → is_bigint value ≡ true
small_test value low high = rw (test_from_le least_bigint value low, test_from_le value greatest_bigint high) refl

-- where arithmetic takes a value, its number is one of 64 bits
pub small_operand : (kind : ExprKind) (interval : Interval) (value : Value) → HasKind kind value → interval_of kind ≡ Some interval → small_number value ≡ number_of value
small_operand kind interval Null is e = refl
small_operand kind interval (Int value) is e = refl
small_operand (number interval) other (Big value) is e =
    let low_high = ends interval is.1 in
    let test = small_test value (omega (arith, ints, low_high.0, is.0.from)) (omega (arith, ints, low_high.1, is.0.to)) in
    rw test refl
small_operand sum other (Big value) is e = cc
small_operand text other (Big value) is e = cc
small_operand null other (Big value) is e = cc
small_operand faulty other (Big value) is e = cc
small_operand kind interval (Text value) is e = refl

small_number-or_null : (value : Option ℤ) → small_number (number_or_null value) ≡ value
small_number-or_null None = refl
small_number-or_null (Some value) = refl

-- What arithmetic reaches has intervals of its operands, and is within the range of BIGINT.
pub record AreOperands (over : Interval → Interval → Interval) (x y : ExprKind) : Type 0 where
  pub left : Interval
  pub right : Interval
  pub left_is : interval_of x ≡ Some left
  pub right_is : interval_of y ≡ Some right
  pub within : is_within (over left right) ≡ true

operands_of : (over : Interval → Interval → Interval) (x y : ExprKind) (left right : Option Interval) → interval_of x ≡ left → interval_of y ≡ right
    → is_proper (reached (of_both over left right)) ≡ true → AreOperands over x y
operands_of over x y None right left_is right_is e = cc
operands_of over x y (Some left) None left_is right_is e = cc
operands_of over x y (Some left) (Some right) left_is right_is e =
    record { left = left; right = right; left_is = left_is; right_is = right_is; within = within_reached (over left right) e }

-- the same of one operand
pub record IsOperand (x : ExprKind) : Type 0 where
  pub interval : Interval
  pub is : interval_of x ≡ Some interval
  pub within : is_within (negated interval) ≡ true

operand_of : (x : ExprKind) (interval : Option Interval) → interval_of x ≡ interval → is_proper (reached (option_map negated interval)) ≡ true → IsOperand x
operand_of x None is e = cc
operand_of x (Some interval) is e = record { interval = interval; is = is; within = within_reached (negated interval) e }

chosen : (b : Bool) (value a : ℤ) → (if b then Some value else None) ≡ Some a → value ≡ a
chosen true value a e = cc
chosen false value a e = cc

-- the 64-bit number of a value that has an interval is in it
operand_in : (interval : Interval) (a : ℤ) (value : Value) → IsNullOrIn interval value → small_number value ≡ Some a → IsIn interval a
operand_in interval a Null is e = cc
operand_in interval a (Int value) is e = let same : value ≡ a = cc in subst (IsIn interval) same is
operand_in interval a (Big value) is e = subst (IsIn interval) (chosen (is_bigint value) value a e) is
operand_in interval a (Text value) is e = absurd is

-- and it is one of 64 bits
SFits-operand : (kind : ExprKind) (interval : Interval) (value : Value) (a : ℤ) → HasKind kind value → interval_of kind ≡ Some interval → small_number value ≡ Some a → SFits w64 a
SFits-operand (number interval) other value a is e some = SFits-within interval a is.1 (operand_in interval a value is.0 some)
SFits-operand sum other value a is e some = cc
SFits-operand text other value a is e some = cc
SFits-operand null other value a is e some = cc
SFits-operand faulty other value a is e some = cc

proper_operand : (kind : ExprKind) (interval : Interval) → interval_of kind ≡ Some interval → is_proper kind ≡ true
proper_operand (number interval) other e = refl
proper_operand sum interval e = cc
proper_operand text interval e = cc
proper_operand null interval e = refl
proper_operand faulty interval e = cc

module _ (make : Expr → Expr → Expr) (operation : ℤ → ℤ → ℤ) (over : Interval → Interval → Interval) (is : IsOperation make operation over) (choice : Choice) (x y : Expr) (can : CanEvaluate choice (make x y)) where
  abbrev left_kind : ExprKind
  left_kind = expr_kind can.kinds x

  abbrev right_kind : ExprKind
  right_kind = expr_kind can.kinds y

  abbrev left_value : Value
  left_value = expr_value choice x

  abbrev right_value : Value
  right_value = expr_value choice y

  operands : AreOperands over left_kind right_kind
  operands = operands_of over left_kind right_kind (interval_of left_kind) (interval_of right_kind) refl refl (subst (λ kind. is_proper kind ≡ true) (is.kind can.kinds x y) can.typed)

  met : All (MeetsName can.kinds choice) (expr_names x ++ expr_names y)
  met = subst (λ names. All (MeetsName can.kinds choice) names) (is.names x y) can.met

  left_met : All (MeetsName can.kinds choice) (expr_names x)
  left_met = All-left (MeetsName can.kinds choice) (expr_names x) (expr_names y) met

  right_met : All (MeetsName can.kinds choice) (expr_names y)
  right_met = All-right (MeetsName can.kinds choice) (expr_names x) (expr_names y) met

  pub left_operand : CanEvaluate choice x
  left_operand = record { kinds = can.kinds; met = left_met; typed = proper_operand left_kind operands.left operands.left_is }

  pub right_operand : CanEvaluate choice y
  right_operand = record { kinds = can.kinds; met = right_met; typed = proper_operand right_kind operands.right operands.right_is }

  left_has : HasKind left_kind left_value
  left_has = value_has_kind can.kinds choice x left_met

  right_has : HasKind right_kind right_value
  right_has = value_has_kind can.kinds choice y right_met

  left_number : small_number left_value ≡ number_of left_value
  left_number = small_operand left_kind operands.left left_value left_has operands.left_is

  right_number : small_number right_value ≡ number_of right_value
  right_number = small_operand right_kind operands.right right_value right_has operands.right_is

  -- the number of the whole comes from those of the operands
  pub small_number-operation : small_number (expr_value choice (make x y)) ≡ both operation (small_number left_value) (small_number right_value)
  small_number-operation =
      ap small_number (is.value choice x y) ∙ small_number-or_null (both operation (number_of left_value) (number_of right_value))
      ∙ sym (ap (λ left. both operation left (small_number right_value)) left_number ∙ ap (both operation (number_of left_value)) right_number)

  -- and it is one of 64 bits
  pub SFits-operation : (a b : ℤ) → small_number left_value ≡ Some a → small_number right_value ≡ Some b → SFits w64 (operation a b)
  SFits-operation a b left_is right_is =
      let left_in : IsIn operands.left a = operand_in operands.left a left_value (subst (λ each. InEach each left_value) operands.left_is (HasKind-interval left_kind left_value left_has)) left_is in
      let right_in : IsIn operands.right b = operand_in operands.right b right_value (subst (λ each. InEach each right_value) operands.right_is (HasKind-interval right_kind right_value right_has)) right_is in
      SFits-within (over operands.left operands.right) (operation a b) operands.within (is.sound operands.left operands.right a b left_in right_in)

  pub left_SFits : (a : ℤ) → small_number left_value ≡ Some a → SFits w64 a
  left_SFits a e = SFits-operand left_kind operands.left left_value a left_has operands.left_is e

  pub right_SFits : (b : ℤ) → small_number right_value ≡ Some b → SFits w64 b
  right_SFits b e = SFits-operand right_kind operands.right right_value b right_has operands.right_is e

module _ (choice : Choice) (x : Expr) (can : CanEvaluate choice (node.Negate x)) where
  abbrev inner_kind : ExprKind
  inner_kind = expr_kind can.kinds x

  abbrev inner_value : Value
  inner_value = expr_value choice x

  inner : IsOperand inner_kind
  inner = operand_of inner_kind (interval_of inner_kind) refl (subst (λ kind. is_proper kind ≡ true) (kind-Negate can.kinds x) can.typed)

  inner_met : All (MeetsName can.kinds choice) (expr_names x)
  inner_met = subst (λ names. All (MeetsName can.kinds choice) names) (names-Negate x) can.met

  pub negated_operand : CanEvaluate choice x
  negated_operand = record { kinds = can.kinds; met = inner_met; typed = proper_operand inner_kind inner.interval inner.is }

  inner_has : HasKind inner_kind inner_value
  inner_has = value_has_kind can.kinds choice x inner_met

  inner_number : small_number inner_value ≡ number_of inner_value
  inner_number = small_operand inner_kind inner.interval inner_value inner_has inner.is

  pub small_number-Negate : small_number (expr_value choice (node.Negate x)) ≡ option_map neg_ℤ (small_number inner_value)
  small_number-Negate =
      ap small_number (value-Negate choice x) ∙ small_number-or_null (option_map neg_ℤ (number_of inner_value)) ∙ sym (ap (option_map neg_ℤ) inner_number)

  pub inner_SFits : (a : ℤ) → small_number inner_value ≡ Some a → SFits w64 a
  inner_SFits a e = SFits-operand inner_kind inner.interval inner_value a inner_has inner.is e

  pub SFits-Negate : (a : ℤ) → small_number inner_value ≡ Some a → SFits w64 (neg_ℤ a)
  SFits-Negate a is =
      let inside : IsIn inner.interval a = operand_in inner.interval a inner_value (subst (λ each. InEach each inner_value) inner.is (HasKind-interval inner_kind inner_value inner_has)) is in
      SFits-within (negated inner.interval) (neg_ℤ a) inner.within (negated_sound inner.interval a inside)

pub column_name : (P : Name → Type 0) (table index : ℕ) (expr : Expr) → expr ≡ node.Column table index → All P (expr_names expr) → P (column table index)
column_name P table index expr is all = All-one P (column table index) (subst (λ names. All P names) (ap expr_names is ∙ names-Column table index) all)

pub slot_name : (P : Name → Type 0) (index : ℕ) (expr : Expr) → expr ≡ node.Slot index → All P (expr_names expr) → P (slot index)
slot_name P index expr is all = All-one P (slot index) (subst (λ names. All P names) (ap expr_names is ∙ names-Slot index) all)

-- What a node of an operation is in terms of its operands: each can be evaluated, its names are there, and the number of the whole
-- is that of the operation.
pub record Operates (P : Name → Type 0) (choice : Choice) (operation : ℤ → ℤ → ℤ) (whole x y : Expr) : Type 0 where
  pub left_names : All P (expr_names x)
  pub right_names : All P (expr_names y)
  pub left_can : CanEvaluate choice x
  pub right_can : CanEvaluate choice y
  pub answer : small_number (expr_value choice whole) ≡ both operation (small_number (expr_value choice x)) (small_number (expr_value choice y))
  pub fits : (a b : ℤ) → small_number (expr_value choice x) ≡ Some a → small_number (expr_value choice y) ≡ Some b → SFits w64 (operation a b)
  pub left_fits : (a : ℤ) → small_number (expr_value choice x) ≡ Some a → SFits w64 a
  pub right_fits : (b : ℤ) → small_number (expr_value choice y) ≡ Some b → SFits w64 b

module _ (make : Expr → Expr → Expr) (operation : ℤ → ℤ → ℤ) (over : Interval → Interval → Interval) (is : IsOperation make operation over) (P : Name → Type 0) (choice : Choice) (whole x y : Expr)
    (whole_is : whole ≡ make x y) (all : All P (expr_names whole)) (can : CanEvaluate choice whole) where
  abbrev can_make : CanEvaluate choice (make x y)
  can_make = subst (CanEvaluate choice) whole_is can

  names : All P (expr_names x ++ expr_names y)
  names = subst (λ names. All P names) (ap expr_names whole_is ∙ is.names x y) all

  pub operates : Operates P choice operation whole x y
  operates =
      record {
        left_names = All-left P (expr_names x) (expr_names y) names;
        right_names = All-right P (expr_names x) (expr_names y) names;
        left_can = left_operand make operation over is choice x y can_make;
        right_can = right_operand make operation over is choice x y can_make;
        answer = ap (λ expr. small_number (expr_value choice expr)) whole_is ∙ small_number-operation make operation over is choice x y can_make;
        fits = SFits-operation make operation over is choice x y can_make;
        left_fits = left_SFits make operation over is choice x y can_make;
        right_fits = right_SFits make operation over is choice x y can_make;
      }

none_right : (operation : ℤ → ℤ → ℤ) (left : Option ℤ) → both operation left None ≡ None
none_right operation None = refl
none_right operation (Some left) = refl

-- an operand without a number leaves the whole without one
pub answer-none_left : (P : Name → Type 0) (choice : Choice) (operation : ℤ → ℤ → ℤ) (whole x y left : Expr) → Operates P choice operation whole x y → left ≡ x
    → None ≡ small_number (expr_value choice left) → None ≡ small_number (expr_value choice whole)
answer-none_left P choice operation whole x y left at is none =
    sym (at.answer ∙ ap (λ number. both operation number (small_number (expr_value choice y))) (sym (none ∙ ap (λ expr. small_number (expr_value choice expr)) is)))

-- what the code makes of the numbers of two operands, which stand behind references
module _ (P : Name → Type 0) (choice : Choice) (operation : ℤ → ℤ → ℤ) (whole x y left right : Expr) (at : Operates P choice operation whole x y) (left_is : left ≡ x) (right_is : right ≡ y) where
  abbrev small_at : Expr → Option ℤ
  small_at expr = small_number (expr_value choice expr)

  answer_at : small_at whole ≡ both operation (small_at left) (small_at right)
  answer_at = at.answer ∙ sym (ap (λ expr. both operation (small_at expr) (small_at right)) left_is ∙ ap (λ expr. both operation (small_at x) (small_at expr)) right_is)

  pub answer-none : None ≡ small_at right → None ≡ small_at whole
  answer-none none = sym (answer_at ∙ ap (both operation (small_at left)) (sym none) ∙ none_right operation (small_at left))

  module _ (a b : ℤ) (left_some : Some a ≡ small_at left) (right_some : Some b ≡ small_at right) where
    left_at : small_at x ≡ Some a
    left_at = sym (left_some ∙ ap small_at left_is)

    right_at : small_at y ≡ Some b
    right_at = sym (right_some ∙ ap small_at right_is)

    same_left : to_z w64 (of_z w64 a) ≡ a
    same_left = to_z-of_z w64 a (at.left_fits a left_at)

    same_right : to_z w64 (of_z w64 b) ≡ b
    same_right = to_z-of_z w64 b (at.right_fits b right_at)

    same_operation : operation (to_z w64 (of_z w64 a)) (to_z w64 (of_z w64 b)) ≡ operation a b
    same_operation = ap (λ left. operation left (to_z w64 (of_z w64 b))) same_left ∙ ap (operation a) same_right

    pub SFits-some : SFits w64 (operation (to_z w64 (of_z w64 a)) (to_z w64 (of_z w64 b)))
    SFits-some = subst (SFits w64) (sym same_operation) (at.fits a b left_at right_at)

    pub answer-some : Some (to_z w64 (of_z w64 (operation (to_z w64 (of_z w64 a)) (to_z w64 (of_z w64 b))))) ≡ small_at whole
    answer-some =
        ap (λ value. Some value) (to_z-of_z w64 (operation (to_z w64 (of_z w64 a)) (to_z w64 (of_z w64 b))) SFits-some ∙ same_operation)
        ∙ sym (at.answer ∙ ap (λ left. both operation left (small_at y)) left_at ∙ ap (both operation (Some a)) right_at)

-- the same of a negation
module _ (P : Name → Type 0) (choice : Choice) (whole x : Expr) (is : whole ≡ node.Negate x) (all : All P (expr_names whole)) (can : CanEvaluate choice whole) where
  abbrev can_negate : CanEvaluate choice (node.Negate x)
  can_negate = subst (CanEvaluate choice) is can

  pub negated_names : All P (expr_names x)
  negated_names = subst (λ names. All P names) (ap expr_names is ∙ names-Negate x) all

  pub negated_can : CanEvaluate choice x
  negated_can = negated_operand choice x can_negate

  module _ (inner : Expr) (inner_is : inner ≡ x) where
    small-whole : small_number (expr_value choice whole) ≡ option_map neg_ℤ (small_number (expr_value choice inner))
    small-whole =
        ap (λ expr. small_number (expr_value choice expr)) is ∙ small_number-Negate choice x can_negate
        ∙ ap (λ expr. option_map neg_ℤ (small_number (expr_value choice expr))) (sym inner_is)

    pub negated-none : None ≡ small_number (expr_value choice inner) → None ≡ small_number (expr_value choice whole)
    negated-none none = sym (small-whole ∙ ap (option_map neg_ℤ) (sym none))

    module _ (a : ℤ) (some : Some a ≡ small_number (expr_value choice inner)) where
      inner_at : small_number (expr_value choice x) ≡ Some a
      inner_at = sym (some ∙ ap (λ expr. small_number (expr_value choice expr)) inner_is)

      same_inner : to_z w64 (of_z w64 a) ≡ a
      same_inner = to_z-of_z w64 a (inner_SFits choice x can_negate a inner_at)

      same_negation : pos 0 -ℤ to_z w64 (of_z w64 a) ≡ neg_ℤ a
      same_negation = +ℤ_idl (neg_ℤ (to_z w64 (of_z w64 a))) ∙ ap neg_ℤ same_inner

      pub SFits-negated : SFits w64 (pos 0 -ℤ to_z w64 (of_z w64 a))
      SFits-negated = subst (SFits w64) (sym same_negation) (SFits-Negate choice x can_negate a inner_at)

      pub negated-some : Some (to_z w64 (of_z w64 (pos 0 -ℤ to_z w64 (of_z w64 a)))) ≡ small_number (expr_value choice whole)
      negated-some =
          ap (λ value. Some value) (to_z-of_z w64 (pos 0 -ℤ to_z w64 (of_z w64 a)) SFits-negated ∙ same_negation) ∙ ap (option_map neg_ℤ) some ∙ sym small-whole
