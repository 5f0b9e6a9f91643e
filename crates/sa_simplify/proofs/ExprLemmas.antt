-- Folds at a node of an expression, induction over expressions, and what is known of a literal.
use Rattle.std.proofs.Common.{◌≡◌, ℕ, List, ap, sym, ◌∙◌, subst}
use Rattle.sa_value.specs.declared.value.Value.{Value}
use Rattle.sa_cond.specs.declared.expr.Expr.{Expr, Expr-F, roll-Expr, map-Expr, fold-Expr, fold-roll-Expr, ind-Expr}
use Rattle.sa_cond.specs.declared.expr.Expr.TheVariants.{Column, Slot, Literal, Negate, Add, Subtract, Multiply, rolls-Column, rolls-Slot, rolls-Literal, rolls-Negate, rolls-Add, rolls-Subtract, rolls-Multiply}
use Rattle.sa_cond.specs.Choice.{Choice}
use Rattle.sa_cond.specs.Cited.{Name, expr_names, node_names}
use Rattle.sa_cond.specs.Expression.{expr_value, node_value}
use Rattle.sa_cond.specs.Interval.{CellKinds, ExprKind, expr_kind, node_kind}

-- the expression with this node
abbrev pub of_expr_node : Expr-F Expr → Expr
of_expr_node (Expr-F.Column table column) = Column table column
of_expr_node (Expr-F.Slot slot) = Slot slot
of_expr_node (Expr-F.Literal value) = Literal value
of_expr_node (Expr-F.Negate x) = Negate x
of_expr_node (Expr-F.Add x y) = Add x y
of_expr_node (Expr-F.Subtract x y) = Subtract x y
of_expr_node (Expr-F.Multiply x y) = Multiply x y

pub of_expr_node-roll : (node : Expr-F Expr) → roll-Expr node ≡ of_expr_node node
of_expr_node-roll (Expr-F.Column table column) = rolls-Column table column
of_expr_node-roll (Expr-F.Slot slot) = rolls-Slot slot
of_expr_node-roll (Expr-F.Literal value) = rolls-Literal value
of_expr_node-roll (Expr-F.Negate x) = rolls-Negate x
of_expr_node-roll (Expr-F.Add x y) = rolls-Add x y
of_expr_node-roll (Expr-F.Subtract x y) = rolls-Subtract x y
of_expr_node-roll (Expr-F.Multiply x y) = rolls-Multiply x y

pub fold-of_expr_node : (A : Type 0) (step : Expr-F A → A) (node : Expr-F Expr) → fold-Expr A step (of_expr_node node) ≡ step (map-Expr Expr A (fold-Expr A step) node)
fold-of_expr_node A step node = ap (fold-Expr A step) (sym (of_expr_node-roll node)) ∙ fold-roll-Expr A step node

pub value-of_node : (choice : Choice) (node : Expr-F Expr) → expr_value choice (of_expr_node node) ≡ node_value choice (map-Expr Expr Value (expr_value choice) node)
value-of_node choice = fold-of_expr_node Value (node_value choice)

pub kind-of_node : (kinds : CellKinds) (node : Expr-F Expr) → expr_kind kinds (of_expr_node node) ≡ node_kind kinds (map-Expr Expr ExprKind (expr_kind kinds) node)
kind-of_node kinds = fold-of_expr_node ExprKind (node_kind kinds)

pub names-of_expr_node : (node : Expr-F Expr) → expr_names (of_expr_node node) ≡ node_names (map-Expr Expr (List Name) expr_names node)
names-of_expr_node = fold-of_expr_node (List Name) node_names

-- What holds of an expression without others inside, and of one whose inner ones have it, holds of every expression.
pub record CarriesExpr (P : Expr → Type 0) : Type 0 where
  pub column : (table column : ℕ) → P (Column table column)
  pub slot : (slot : ℕ) → P (Slot slot)
  pub literal : (value : Value) → P (Literal value)
  pub negate : (x : Expr) → P x → P (Negate x)
  pub add : (x y : Expr) → P x → P y → P (Add x y)
  pub subtract : (x y : Expr) → P x → P y → P (Subtract x y)
  pub multiply : (x y : Expr) → P x → P y → P (Multiply x y)

at_node : (P : Expr → Type 0) → CarriesExpr P → (y : Expr-F ((expr : Expr) × P expr)) → P (of_expr_node (map-Expr ((expr : Expr) × P expr) Expr (λ e. e.0) y))
at_node P carries (Expr-F.Column table column) = carries.column table column
at_node P carries (Expr-F.Slot slot) = carries.slot slot
at_node P carries (Expr-F.Literal value) = carries.literal value
at_node P carries (Expr-F.Negate x) = carries.negate x.0 x.1
at_node P carries (Expr-F.Add x y) = carries.add x.0 y.0 x.1 y.1
at_node P carries (Expr-F.Subtract x y) = carries.subtract x.0 y.0 x.1 y.1
at_node P carries (Expr-F.Multiply x y) = carries.multiply x.0 y.0 x.1 y.1

pub along_expr : (P : Expr → Type 0) → CarriesExpr P → (expr : Expr) → P expr
along_expr P carries =
    ind-Expr P (λ x y is. subst P (sym (of_expr_node-roll x)) (subst (λ z. P (of_expr_node z)) is (at_node P carries y)))
