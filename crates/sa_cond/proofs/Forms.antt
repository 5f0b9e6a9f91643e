-- What the definitions say of an expression of each form, and an induction over the forms.
use Rattle.std.proofs.Common.{◌≡◌, ℕ, ◌+ℤ◌, ◌-ℤ◌, ◌*ℤ◌, neg_ℤ, [], ◌∷◌, ◌++◌, sym, subst, option_map}
use Rattle.sa_value.specs.declared.value.Value.{Value}
use Rattle.sa_cond.specs.declared.expr.Expr.{Expr, Expr-F, map-Expr, ind-Expr, roll-Expr, the_lemmas}
use Rattle.sa_cond.specs.declared.expr.Expr.TheVariants as node
use Rattle.sa_cond.specs.Choice.{Choice}
use Rattle.sa_cond.specs.Cited.{column, slot, expr_names}
use Rattle.sa_cond.specs.Expression.{number_of, number_or_null, applied, expr_value}
use Rattle.sa_cond.specs.Interval.{CellKinds, negated, added, subtracted, multiplied, interval_of, reached, of_both, kind_of_cell, kind_of_literal, expr_kind}

-- what holds of each leaf, and of a node where it holds of the expressions below, holds of each expression
pub record Cases (P : Expr → Type 0) : Type 0 where
  pub at_column : (table number : ℕ) → P (node.Column table number)
  pub at_slot : (number : ℕ) → P (node.Slot number)
  pub at_literal : (value : Value) → P (node.Literal value)
  pub at_negate : (x : Expr) → P x → P (node.Negate x)
  pub at_add : (x y : Expr) → P x → P y → P (node.Add x y)
  pub at_subtract : (x y : Expr) → P x → P y → P (node.Subtract x y)
  pub at_multiply : (x y : Expr) → P x → P y → P (node.Multiply x y)

module _ (P : Expr → Type 0) (cases : Cases P) where
  abbrev At : Expr-F Expr → Type 0
  At layer = P (roll-Expr layer)

  at_layer : (y : Expr-F ((e : Expr) × P e)) → (x : Expr-F Expr) → map-Expr ((e : Expr) × P e) Expr (λ e. e.0) y ≡ x → At x
  at_layer (Expr-F.Column table number) x is = subst At is (subst P (sym (node.rolls-Column table number)) (cases.at_column table number))
  at_layer (Expr-F.Slot number) x is = subst At is (subst P (sym (node.rolls-Slot number)) (cases.at_slot number))
  at_layer (Expr-F.Literal value) x is = subst At is (subst P (sym (node.rolls-Literal value)) (cases.at_literal value))
  at_layer (Expr-F.Negate e) x is = subst At is (subst P (sym (node.rolls-Negate e.0)) (cases.at_negate e.0 e.1))
  at_layer (Expr-F.Add d e) x is = subst At is (subst P (sym (node.rolls-Add d.0 e.0)) (cases.at_add d.0 e.0 d.1 e.1))
  at_layer (Expr-F.Subtract d e) x is = subst At is (subst P (sym (node.rolls-Subtract d.0 e.0)) (cases.at_subtract d.0 e.0 d.1 e.1))
  at_layer (Expr-F.Multiply d e) x is = subst At is (subst P (sym (node.rolls-Multiply d.0 e.0)) (cases.at_multiply d.0 e.0 d.1 e.1))

  pub by_forms : (expr : Expr) → P expr
  by_forms = ind-Expr P (λ x y is. at_layer y x is)

-- values

pub value-Column : (choice : Choice) (table number : ℕ) → expr_value choice (node.Column table number) ≡ choice.cell table number
value-Column choice table number = simp the_lemmas

pub value-Slot : (choice : Choice) (number : ℕ) → expr_value choice (node.Slot number) ≡ choice.slot number
value-Slot choice number = simp the_lemmas

pub value-Literal : (choice : Choice) (value : Value) → expr_value choice (node.Literal value) ≡ value
value-Literal choice value = simp the_lemmas

pub value-Negate : (choice : Choice) (x : Expr) → expr_value choice (node.Negate x) ≡ number_or_null (option_map neg_ℤ (number_of (expr_value choice x)))
value-Negate choice x = simp the_lemmas

pub value-Add : (choice : Choice) (x y : Expr) → expr_value choice (node.Add x y) ≡ applied (λ x y. x +ℤ y) (expr_value choice x) (expr_value choice y)
value-Add choice x y = simp the_lemmas

pub value-Subtract : (choice : Choice) (x y : Expr) → expr_value choice (node.Subtract x y) ≡ applied (λ x y. x -ℤ y) (expr_value choice x) (expr_value choice y)
value-Subtract choice x y = simp the_lemmas

pub value-Multiply : (choice : Choice) (x y : Expr) → expr_value choice (node.Multiply x y) ≡ applied (λ x y. x *ℤ y) (expr_value choice x) (expr_value choice y)
value-Multiply choice x y = simp the_lemmas

-- kinds

pub kind-Column : (kinds : CellKinds) (table number : ℕ) → expr_kind kinds (node.Column table number) ≡ kind_of_cell (kinds.column table number)
kind-Column kinds table number = simp the_lemmas

pub kind-Slot : (kinds : CellKinds) (number : ℕ) → expr_kind kinds (node.Slot number) ≡ kind_of_cell (kinds.slot number)
kind-Slot kinds number = simp the_lemmas

pub kind-Literal : (kinds : CellKinds) (value : Value) → expr_kind kinds (node.Literal value) ≡ kind_of_literal value
kind-Literal kinds value = simp the_lemmas

pub kind-Negate : (kinds : CellKinds) (x : Expr) → expr_kind kinds (node.Negate x) ≡ reached (option_map negated (interval_of (expr_kind kinds x)))
kind-Negate kinds x = simp the_lemmas

pub kind-Add : (kinds : CellKinds) (x y : Expr)
    → expr_kind kinds (node.Add x y) ≡ reached (of_both added (interval_of (expr_kind kinds x)) (interval_of (expr_kind kinds y)))
kind-Add kinds x y = simp the_lemmas

pub kind-Subtract : (kinds : CellKinds) (x y : Expr)
    → expr_kind kinds (node.Subtract x y) ≡ reached (of_both subtracted (interval_of (expr_kind kinds x)) (interval_of (expr_kind kinds y)))
kind-Subtract kinds x y = simp the_lemmas

pub kind-Multiply : (kinds : CellKinds) (x y : Expr)
    → expr_kind kinds (node.Multiply x y) ≡ reached (of_both multiplied (interval_of (expr_kind kinds x)) (interval_of (expr_kind kinds y)))
kind-Multiply kinds x y = simp the_lemmas

-- names

pub names-Column : (table number : ℕ) → expr_names (node.Column table number) ≡ column table number ∷ []
names-Column table number = simp the_lemmas

pub names-Slot : (number : ℕ) → expr_names (node.Slot number) ≡ slot number ∷ []
names-Slot number = simp the_lemmas

pub names-Literal : (value : Value) → expr_names (node.Literal value) ≡ []
names-Literal value = simp the_lemmas

pub names-Negate : (x : Expr) → expr_names (node.Negate x) ≡ expr_names x
names-Negate x = simp the_lemmas

pub names-Add : (x y : Expr) → expr_names (node.Add x y) ≡ expr_names x ++ expr_names y
names-Add x y = simp the_lemmas

pub names-Subtract : (x y : Expr) → expr_names (node.Subtract x y) ≡ expr_names x ++ expr_names y
names-Subtract x y = simp the_lemmas

pub names-Multiply : (x y : Expr) → expr_names (node.Multiply x y) ≡ expr_names x ++ expr_names y
names-Multiply x y = simp the_lemmas
