-- The third step of simplification: arithmetic on literals is done beforehand.
--
-- From the inside out, an arithmetic expression with a literal NULL becomes NULL, and one of
-- literals that aren't NULL becomes the literal of its value. Numbers are without bounds here;
-- where the condition is well-typed each literal is a BIGINT.
use Rattle.std.specs.Prelude.{ℤ, ◌+ℤ◌, ◌-ℤ◌, ◌*ℤ◌, neg_ℤ, Option, Some, None, option_map}
use Rattle.sa_value.specs.declared.value.Value.{Value}
use Rattle.sa_value.specs.declared.value.Value.TheVariants.{Null}
use Rattle.sa_cond.specs.declared.cond.Cond.{Cond, Cond-F, fold-Cond}
use Rattle.sa_cond.specs.declared.cond.Cond.TheVariants.{Compare, IsNull, NotNull}
use Rattle.sa_cond.specs.declared.expr.Expr.{Expr, Expr-F, fold-Expr}
use Rattle.sa_cond.specs.declared.expr.Expr.TheVariants.{Column, Slot, Literal, Negate, Add, Subtract, Multiply}
use Rattle.sa_cond.specs.Expression.{number_of, number_or_null, applied}
use Rattle.sa_simplify.specs.Node.{of_node, literal_of}

-- the value of an operation on an expression that may be a literal
abbrev pub value_of_one : (ℤ → ℤ) → Option Value → Option Value
value_of_one operation = option_map (λ value. number_or_null (option_map operation (number_of value)))

-- the value of an operation on two expressions that may be literals, where it is known
abbrev pub value_of_two : (ℤ → ℤ → ℤ) → Option Value → Option Value → Option Value
value_of_two operation (Some Null) right = Some Null
value_of_two operation left (Some Null) = Some Null
value_of_two operation (Some left) (Some right) = Some (applied operation left right)
value_of_two operation left right = None

-- the literal of a value that is known, else what there is
abbrev pub literal_or : Option Value → Expr → Expr
literal_or None expr = expr
literal_or (Some value) expr = Literal value

-- One node, with what became of the expressions below in their place.
abbrev pub node_folded : Expr-F Expr → Expr
node_folded (Expr-F.Column table column) = Column table column
node_folded (Expr-F.Slot slot) = Slot slot
node_folded (Expr-F.Literal value) = Literal value
node_folded (Expr-F.Negate x) = literal_or (value_of_one neg_ℤ (literal_of x)) (Negate x)
node_folded (Expr-F.Add x y) =
    literal_or (value_of_two (λ x y. x +ℤ y) (literal_of x) (literal_of y)) (Add x y)
node_folded (Expr-F.Subtract x y) =
    literal_or (value_of_two (λ x y. x -ℤ y) (literal_of x) (literal_of y)) (Subtract x y)
node_folded (Expr-F.Multiply x y) =
    literal_or (value_of_two (λ x y. x *ℤ y) (literal_of x) (literal_of y)) (Multiply x y)

-- a whole expression
unfoldable pub folded_expr : Expr → Expr
folded_expr = fold-Expr Expr node_folded

-- One node of a condition, with what became of its members in their place. BETWEEN and IN are gone
-- by now.
abbrev pub node_folded_within : Cond-F Cond → Cond
node_folded_within (Cond-F.Compare op left right) = Compare op (folded_expr left) (folded_expr right)
node_folded_within (Cond-F.IsNull x) = IsNull (folded_expr x)
node_folded_within (Cond-F.NotNull x) = NotNull (folded_expr x)
node_folded_within node = of_node node

-- the whole condition
unfoldable pub folded : Cond → Cond
folded = fold-Cond Cond node_folded_within
