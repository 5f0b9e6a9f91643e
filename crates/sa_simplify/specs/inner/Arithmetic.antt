-- Arithmetic in 64 bits: when it is asked for, and of what.
use Rattle.std.specs.Prelude.{◌≡◌, ⊤, true, ℤ, ◌+ℤ◌, ◌-ℤ◌, ◌*ℤ◌, neg_ℤ, Option, Some, None, option_and_then, FitsSigned}
use Rattle.std.specs.Int.{w64}
use Rattle.sa_cond.specs.declared.expr.Expr.{Expr}
use Rattle.sa_cond.specs.declared.expr.Expr.TheVariants.{Add as add, Subtract as subtract, Multiply as multiply}
use Rattle.sa_cond.specs.Expression.{number_of}
use Rattle.sa_cond.specs.Interval.{CellKinds, expr_kind}
use Rattle.sa_cond.specs.Typed.{is_proper}
use Rattle.sa_simplify.specs.declared.fold.Operation.{Operation}
use Rattle.sa_simplify.specs.declared.fold.Operation.TheVariants.{Add, Subtract, Multiply}
use Rattle.sa_simplify.specs.Node.{literal_of}

-- With some kinds an expression is well-typed, and its arithmetic stays in the range of BIGINT.
pub record IsProper (expr : Expr) : Type 0 where
  pub kinds : CellKinds
  pub proper : is_proper (expr_kind kinds expr) ≡ true

-- what an operation makes of two numbers
abbrev pub operation : Operation → ℤ → ℤ → ℤ
operation Add = λ x y. x +ℤ y
operation Subtract = λ x y. x -ℤ y
operation Multiply = λ x y. x *ℤ y

-- the expression that an operation makes of two
abbrev pub tree : Operation → Expr → Expr → Expr
tree Add x y = add x y
tree Subtract x y = subtract x y
tree Multiply x y = multiply x y

-- the number of a literal
abbrev pub number_in : Expr → Option ℤ
number_in expr = option_and_then number_of (literal_of expr)

-- Where there is a number, its negative has 64 bits.
abbrev pub NegativeFits : Option ℤ → Type 0
NegativeFits None = ⊤
NegativeFits (Some x) = FitsSigned w64 (neg_ℤ x)

-- Where there are two numbers, what an operation makes of them has 64 bits.
abbrev pub ResultFits : (ℤ → ℤ → ℤ) → Option ℤ → Option ℤ → Type 0
ResultFits operation None y = ⊤
ResultFits operation (Some x) None = ⊤
ResultFits operation (Some x) (Some y) = FitsSigned w64 (operation x y)
