-- The value of an expression on a choice of rows, over numbers without bounds.
-- Source: MariaDB Knowledge Base, "Arithmetic Operators": an operand that is NULL gives NULL.
use Rattle.std.specs.Prelude.{ℤ, ◌+ℤ◌, ◌-ℤ◌, ◌*ℤ◌, neg_ℤ, Option, Some, None, option_map}
use Rattle.sa_value.specs.declared.value.Value.{Value}
use Rattle.sa_value.specs.declared.value.Value.TheVariants.{Null, Int, Big, Text}
use Rattle.sa_cond.specs.declared.expr.Expr.{Expr, Expr-F, fold-Expr}
use Rattle.sa_cond.specs.Choice.{Choice}

-- the number that a value is; NULL and texts are none
abbrev pub number_of : Value → Option ℤ
number_of Null = None
number_of (Int number) = Some number
number_of (Big number) = Some number
number_of (Text text) = None

-- the value of a number, or of none
abbrev pub number_or_null : Option ℤ → Value
number_or_null None = Null
number_or_null (Some number) = Int number

-- what an operation makes of two numbers, or of none
abbrev pub both : (ℤ → ℤ → ℤ) → Option ℤ → Option ℤ → Option ℤ
both operation None right = None
both operation (Some left) None = None
both operation (Some left) (Some right) = Some (operation left right)

-- An operation on two values gives a number where both are numbers, and else NULL.
abbrev pub applied : (ℤ → ℤ → ℤ) → Value → Value → Value
applied operation left right = number_or_null (both operation (number_of left) (number_of right))

-- One node, with the value of each expression below in its place.
abbrev pub node_value : Choice → Expr-F Value → Value
node_value choice (Expr-F.Column table column) = choice.cell table column
node_value choice (Expr-F.Slot number) = choice.slot number
node_value choice (Expr-F.Literal value) = value
node_value choice (Expr-F.Negate x) = number_or_null (option_map neg_ℤ (number_of x))
node_value choice (Expr-F.Add x y) = applied (λ x y. x +ℤ y) x y
node_value choice (Expr-F.Subtract x y) = applied (λ x y. x -ℤ y) x y
node_value choice (Expr-F.Multiply x y) = applied (λ x y. x *ℤ y) x y

-- the whole expression
abbrev pub expr_value : Choice → Expr → Value
expr_value choice = fold-Expr Value (node_value choice)
