-- A condition by its topmost node, and what a literal or a known truth is.
use Rattle.std.specs.Prelude.{Bool, Option, Some, None, is_some}
use Rattle.sa_value.specs.declared.value.Value.{Value}
use Rattle.sa_cond.specs.declared.cond.Cond.{Cond, Cond-F}
use Rattle.sa_cond.specs.declared.cond.Cond.TheVariants.{Known, Compare, IsNull, NotNull, Between, Among, And, Or, Not}
use Rattle.sa_cond.specs.declared.expr.Expr.{Expr}
use Rattle.sa_cond.specs.declared.expr.Expr.TheVariants.{Literal}

-- the condition with this node
abbrev pub of_node : Cond-F Cond → Cond
of_node (Cond-F.Known truth) = Known truth
of_node (Cond-F.Compare op left right) = Compare op left right
of_node (Cond-F.IsNull x) = IsNull x
of_node (Cond-F.NotNull x) = NotNull x
of_node (Cond-F.Between value low high) = Between value low high
of_node (Cond-F.Among value list) = Among value list
of_node (Cond-F.And members) = And members
of_node (Cond-F.Or members) = Or members
of_node (Cond-F.Not x) = Not x

-- the value of an expression that is a literal
abbrev pub literal_of : Expr → Option Value
literal_of (Literal value) = Some value
literal_of expr = None

-- whether an expression is a literal
abbrev pub is_literal : Expr → Bool
is_literal expr = is_some (literal_of expr)
