-- What the kind of an expression says of its value.
use Rattle.std.proofs.Common.{◌≡◌, ℤ, ◌+ℤ◌, ◌-ℤ◌, ◌*ℤ◌, neg_ℤ, Bool, true, false, List, ◌++◌, All, Option, Some, None, option_map, refl, sym, subst, arith, if◌then◌else◌}
use Rattle.std.proofs.lemmas.Int.{ints}
use Rattle.std.specs.Prelude.{⊤}
use Rattle.sa_value.specs.declared.value.Value.{Value}
use Rattle.sa_value.specs.declared.value.Value.TheVariants.{Null, Int, Big, Text}
use Rattle.sa_cond.specs.declared.cells.CellKind.{CellKind}
use Rattle.sa_cond.specs.declared.cells.CellKind.TheVariants as cells
use Rattle.sa_cond.specs.declared.expr.Expr.{Expr}
use Rattle.sa_cond.specs.declared.expr.Expr.TheVariants as node
use Rattle.sa_cond.specs.Choice.{Choice}
use Rattle.sa_cond.specs.Cited.{Name, column, slot, expr_names, MeetsName}
use Rattle.sa_cond.specs.Expression.{number_of, number_or_null, both, applied, expr_value}
use Rattle.sa_cond.specs.Interval.{Interval, CellKinds, ExprKind, number, sum, text, null, faulty, is_within, number_within, negated, added, subtracted, multiplied, interval_of, reached, of_both, kind_of_cell, kind_of_literal, expr_kind}
use Rattle.sa_cond.specs.Typed.{MeetsKind}
use Rattle.sa_cond.specs.Within.{IsIn, IsNullOrIn}
use Rattle.sa_cond.proofs.Forms.{by_forms, value-Column, value-Slot, value-Literal, value-Negate, value-Add, value-Subtract, value-Multiply, kind-Column, kind-Slot, kind-Literal, kind-Negate, kind-Add, kind-Subtract, kind-Multiply, names-Column, names-Slot, names-Literal, names-Negate, names-Add, names-Subtract, names-Multiply}
use Rattle.sa_cond.proofs.Lists.{All-left, All-right, All-one}
use Rattle.sa_cond.proofs.Products.{product_low, product_high}

-- a number, or none, is in an interval
abbrev pub InIf : Interval → Option ℤ → Type 0
InIf interval None = ⊤
InIf interval (Some value) = IsIn interval value

-- a value isn't a text
abbrev pub IsNoText : Value → Type 0
IsNoText Null = ⊤
IsNoText (Int value) = ⊤
IsNoText (Big value) = ⊤
IsNoText (Text value) = ⊥

-- a value has a kind
abbrev pub HasKind : ExprKind → Value → Type 0
HasKind (number interval) value = IsNullOrIn interval value × (is_within interval ≡ true)
HasKind sum value = IsNoText value
HasKind text value = number_of value ≡ None
HasKind null value = value ≡ Null
HasKind faulty value = ⊤

-- a value has the static interval, if there is one
abbrev pub InEach : Option Interval → Value → Type 0
InEach None value = ⊤
InEach (Some interval) value = IsNullOrIn interval value

number_in : (interval : Interval) (value : Value) → IsNullOrIn interval value → InIf interval (number_of value)
number_in interval Null is = tt
number_in interval (Int value) is = is
number_in interval (Big value) is = is
number_in interval (Text value) is = absurd is

value_in : (interval : Interval) (value : Option ℤ) → InIf interval value → IsNullOrIn interval (number_or_null value)
value_in interval None is = tt
value_in interval (Some value) is = is

within_kind : (interval : Interval) (value : Value) (b : Bool) → is_within interval ≡ b → IsNullOrIn interval value → HasKind (if b then number interval else faulty) value
within_kind interval value true e is = (is, e)
within_kind interval value false e is = tt

pub HasKind-number_within : (interval : Interval) (value : Value) → IsNullOrIn interval value → HasKind (number_within interval) value
HasKind-number_within interval value is = within_kind interval value (is_within interval) refl is

pub HasKind-interval : (kind : ExprKind) (value : Value) → HasKind kind value → InEach (interval_of kind) value
HasKind-interval (number interval) value is = is.0
HasKind-interval sum value is = tt
HasKind-interval text value is = tt
HasKind-interval null value is = subst (IsNullOrIn _) (sym is) tt
HasKind-interval faulty value is = tt

HasKind-cell : (kind : CellKind) (value : Value) → MeetsKind kind value → HasKind (kind_of_cell kind) value
HasKind-cell (cells.Number least greatest) Null is = HasKind-number_within (record { least = least; greatest = greatest }) Null tt
HasKind-cell (cells.Number least greatest) (Int value) is =
    HasKind-number_within (record { least = least; greatest = greatest }) (Int value) (record { from = is.0; to = is.1 })
HasKind-cell (cells.Number least greatest) (Big value) is = absurd is
HasKind-cell (cells.Number least greatest) (Text value) is = absurd is
HasKind-cell cells.Sum Null is = tt
HasKind-cell cells.Sum (Int value) is = tt
HasKind-cell cells.Sum (Big value) is = tt
HasKind-cell cells.Sum (Text value) is = absurd is
HasKind-cell cells.Text Null is = refl
HasKind-cell cells.Text (Int value) is = absurd is
HasKind-cell cells.Text (Big value) is = absurd is
HasKind-cell cells.Text (Text value) is = refl

alone : (value : ℤ) → IsIn (record { least = value; greatest = value }) value
alone value = record { from = omega (arith, ints); to = omega (arith, ints) }

HasKind-literal : (value : Value) → HasKind (kind_of_literal value) value
HasKind-literal Null = refl
HasKind-literal (Int value) = HasKind-number_within (record { least = value; greatest = value }) (Int value) (alone value)
HasKind-literal (Big value) = HasKind-number_within (record { least = value; greatest = value }) (Big value) (alone value)
HasKind-literal (Text value) = refl

-- an operation on numbers of two intervals gives a number of a third

module _ (operation : ℤ → ℤ → ℤ) (over : Interval → Interval → Interval) (sound : (x y : Interval) (a b : ℤ) → IsIn x a → IsIn y b → IsIn (over x y) (operation a b)) where
  both_in : (x y : Interval) (a b : Option ℤ) → InIf x a → InIf y b → InIf (over x y) (both operation a b)
  both_in x y None b left right = tt
  both_in x y (Some a) None left right = tt
  both_in x y (Some a) (Some b) left right = sound x y a b left right

  HasKind-applied : (x y : Option Interval) (a b : Value) → InEach x a → InEach y b → HasKind (reached (of_both over x y)) (applied operation a b)
  HasKind-applied None y a b left right = tt
  HasKind-applied (Some x) None a b left right = tt
  HasKind-applied (Some x) (Some y) a b left right =
      HasKind-number_within (over x y) (applied operation a b)
      (value_in (over x y) (both operation (number_of a) (number_of b)) (both_in x y (number_of a) (number_of b) (number_in x a left) (number_in y b right)))

pub negated_sound : (x : Interval) (a : ℤ) → IsIn x a → IsIn (negated x) (neg_ℤ a)
negated_sound x a is = record { from = omega (arith, ints, is.to); to = omega (arith, ints, is.from) }

negated_in : (x : Interval) (a : Option ℤ) → InIf x a → InIf (negated x) (option_map neg_ℤ a)
negated_in x None is = tt
negated_in x (Some a) is = negated_sound x a is

HasKind-negated : (x : Option Interval) (a : Value) → InEach x a → HasKind (reached (option_map negated x)) (number_or_null (option_map neg_ℤ (number_of a)))
HasKind-negated None a is = tt
HasKind-negated (Some x) a is =
    HasKind-number_within (negated x) (number_or_null (option_map neg_ℤ (number_of a)))
    (value_in (negated x) (option_map neg_ℤ (number_of a)) (negated_in x (number_of a) (number_in x a is)))

pub added_sound : (x y : Interval) (a b : ℤ) → IsIn x a → IsIn y b → IsIn (added x y) (a +ℤ b)
added_sound x y a b left right = record { from = omega (arith, ints, left.from, right.from); to = omega (arith, ints, left.to, right.to) }

pub subtracted_sound : (x y : Interval) (a b : ℤ) → IsIn x a → IsIn y b → IsIn (subtracted x y) (a -ℤ b)
subtracted_sound x y a b left right = record { from = omega (arith, ints, left.from, right.to); to = omega (arith, ints, left.to, right.from) }

pub multiplied_sound : (x y : Interval) (a b : ℤ) → IsIn x a → IsIn y b → IsIn (multiplied x y) (a *ℤ b)
multiplied_sound x y a b left right =
    record {
      from = product_low x.least x.greatest y.least y.greatest a b left.from left.to right.from right.to;
      to = product_high x.least x.greatest y.least y.greatest a b left.from left.to right.from right.to;
    }

-- A form is an operation on two numbers, with one on their intervals.
pub record IsOperation (make : Expr → Expr → Expr) (operation : ℤ → ℤ → ℤ) (over : Interval → Interval → Interval) : Type 0 where
  pub value : (choice : Choice) (x y : Expr) → expr_value choice (make x y) ≡ applied operation (expr_value choice x) (expr_value choice y)
  pub kind : (kinds : CellKinds) (x y : Expr) → expr_kind kinds (make x y) ≡ reached (of_both over (interval_of (expr_kind kinds x)) (interval_of (expr_kind kinds y)))
  pub names : (x y : Expr) → expr_names (make x y) ≡ expr_names x ++ expr_names y
  pub sound : (x y : Interval) (a b : ℤ) → IsIn x a → IsIn y b → IsIn (over x y) (operation a b)

pub is_addition : IsOperation node.Add (λ x y. x +ℤ y) added
is_addition = record { value = value-Add; kind = kind-Add; names = names-Add; sound = added_sound }

pub is_subtraction : IsOperation node.Subtract (λ x y. x -ℤ y) subtracted
is_subtraction = record { value = value-Subtract; kind = kind-Subtract; names = names-Subtract; sound = subtracted_sound }

pub is_multiplication : IsOperation node.Multiply (λ x y. x *ℤ y) multiplied
is_multiplication = record { value = value-Multiply; kind = kind-Multiply; names = names-Multiply; sound = multiplied_sound }

module _ (kinds : CellKinds) (choice : Choice) where
  abbrev Named : List Name → Type 0
  Named names = All (MeetsName kinds choice) names

  abbrev Held : Expr → Type 0
  Held expr = Named (expr_names expr) → HasKind (expr_kind kinds expr) (expr_value choice expr)

  -- the kind and the value of an expression are these, and it names these
  held : (expr : Expr) (kind : ExprKind) (value : Value) (names : List Name) → expr_kind kinds expr ≡ kind → expr_value choice expr ≡ value → expr_names expr ≡ names
      → (Named names → HasKind kind value) → Held expr
  held expr kind value names kind_is value_is names_are is met =
      subst (λ kind. HasKind kind (expr_value choice expr)) (sym kind_is) (subst (HasKind kind) (sym value_is) (is (subst Named names_are met)))

  module _ (make : Expr → Expr → Expr) (operation : ℤ → ℤ → ℤ) (over : Interval → Interval → Interval) (is : IsOperation make operation over) where
    held_operation : (x y : Expr) → Held x → Held y → Held (make x y)
    held_operation x y left right =
        held (make x y) _ _ _ (is.kind kinds x y) (is.value choice x y) (is.names x y)
        (λ met. HasKind-applied operation over is.sound (interval_of (expr_kind kinds x)) (interval_of (expr_kind kinds y)) (expr_value choice x) (expr_value choice y)
        (HasKind-interval (expr_kind kinds x) (expr_value choice x) (left (All-left (MeetsName kinds choice) (expr_names x) (expr_names y) met)))
        (HasKind-interval (expr_kind kinds y) (expr_value choice y) (right (All-right (MeetsName kinds choice) (expr_names x) (expr_names y) met))))

  held_negation : (x : Expr) → Held x → Held (node.Negate x)
  held_negation x is =
      held (node.Negate x) _ _ _ (kind-Negate kinds x) (value-Negate choice x) (names-Negate x)
      (λ met. HasKind-negated (interval_of (expr_kind kinds x)) (expr_value choice x) (HasKind-interval (expr_kind kinds x) (expr_value choice x) (is met)))

  -- where cells meet their kinds, so do the values of expressions
  pub value_has_kind : (expr : Expr) → Held expr
  value_has_kind =
      by_forms Held (record {
        at_column = λ table number.
            held (node.Column table number) _ _ _ (kind-Column kinds table number) (value-Column choice table number) (names-Column table number)
            (λ met. HasKind-cell (kinds.column table number) (choice.cell table number) (All-one (MeetsName kinds choice) (column table number) met));
        at_slot = λ number.
            held (node.Slot number) _ _ _ (kind-Slot kinds number) (value-Slot choice number) (names-Slot number)
            (λ met. HasKind-cell (kinds.slot number) (choice.slot number) (All-one (MeetsName kinds choice) (slot number) met));
        at_literal = λ value.
            held (node.Literal value) _ _ _ (kind-Literal kinds value) (value-Literal choice value) (names-Literal value) (λ met. HasKind-literal value);
        at_negate = held_negation;
        at_add = held_operation node.Add (λ x y. x +ℤ y) added is_addition;
        at_subtract = held_operation node.Subtract (λ x y. x -ℤ y) subtracted is_subtraction;
        at_multiply = held_operation node.Multiply (λ x y. x *ℤ y) multiplied is_multiplication;
      })
