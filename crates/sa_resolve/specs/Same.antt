-- When two resolved expressions are the same tree.
use Rattle.std.specs.Prelude.{Bool, true, false, ◌&&◌, ◌==◌, Option, Some, None}
use Rattle.std.specs.Ordering.{is_eq}
use Rattle.sa_value.specs.Compare.{order_of}
use Rattle.sa_ast.specs.declared.expression.AggregateCall.{AggregateCall}
use Rattle.sa_ast.specs.declared.expression.AggregateCall.TheVariants.{CountRows, Count, Sum, Min, Max}
use Rattle.sa_cond.specs.declared.expr.Expr.{Expr, Expr-F, fold-Expr, out-Expr}
use Rattle.sa_query.specs.declared.group.Aggregate.{Aggregate}
use Rattle.sa_query.specs.declared.group.Column.{Column}

-- One node, with whether an expression is the same as each below in its place.
abbrev pub same_node : Expr-F (Expr → Bool) → Expr-F Expr → Bool
same_node (Expr-F.Column table column) (Expr-F.Column other number) = table == other && column == number
same_node (Expr-F.Slot slot) (Expr-F.Slot other) = slot == other
same_node (Expr-F.Literal value) (Expr-F.Literal other) = is_eq (order_of value other)
same_node (Expr-F.Negate is) (Expr-F.Negate other) = is other
same_node (Expr-F.Add left right) (Expr-F.Add one other) = left one && right other
same_node (Expr-F.Subtract left right) (Expr-F.Subtract one other) = left one && right other
same_node (Expr-F.Multiply left right) (Expr-F.Multiply one other) = left one && right other
same_node node other = false

abbrev pub same_expr : Expr → Expr → Bool
same_expr = fold-Expr (Expr → Bool) (λ node other. same_node node (out-Expr other))

abbrev pub same_argument : Option Expr → Option Expr → Bool
same_argument None None = true
same_argument (Some argument) (Some other) = same_expr argument other
same_argument argument other = false

abbrev pub same_call : AggregateCall → AggregateCall → Bool
same_call CountRows CountRows = true
same_call Count Count = true
same_call Sum Sum = true
same_call Min Min = true
same_call Max Max = true
same_call call other = false

abbrev pub same_aggregate : Aggregate → Aggregate → Bool
same_aggregate one other = same_call one.call other.call && same_argument one.argument other.argument

abbrev pub same_column : Column → Column → Bool
same_column one other = one.table == other.table && one.column == other.column
