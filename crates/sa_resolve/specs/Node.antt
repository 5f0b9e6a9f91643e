-- What one node of an expression is and stands for, by what its parts are.
-- Source: MariaDB Knowledge Base, "Aggregate Functions", "Comparison Operators" and "Arithmetic Operators".
use Rattle.std.specs.Prelude.{ℕ, pos, ◌+◌, Bool, List, [], ◌∷◌, map, length, Option, Some, None, option_map, ℤ, if◌then◌else◌}
use Rattle.std.specs.List.{flat_map, position_or_len}
use Rattle.sa_value.specs.declared.truth.Truth.TheVariants.{Unknown}
use Rattle.sa_value.specs.declared.value.Value.{Value}
use Rattle.sa_value.specs.declared.value.Value.TheVariants.{Null, Int, Big, Text}
use Rattle.sa_value.specs.Compare.{known}
use Rattle.sa_ast.specs.declared.expression.AggregateCall.{AggregateCall}
use Rattle.sa_ast.specs.declared.expression.AggregateCall.TheVariants.{CountRows, Count, Sum, Min, Max}
use Rattle.sa_ast.specs.declared.expression.ExprNode.{ExprNode-F}
use Rattle.sa_cond.specs.declared.cond.Cond.{Cond}
use Rattle.sa_cond.specs.declared.cond.Cond.TheVariants as cond
use Rattle.sa_cond.specs.declared.expr.Expr.{Expr}
use Rattle.sa_cond.specs.declared.expr.Expr.TheVariants as expr
use Rattle.sa_cond.specs.Interval.{is_bigint, Interval, ExprKind, number, sum, text, null, faulty, interval_of, reached, of_both, negated, added, subtracted, multiplied, kind_of_literal}
use Rattle.sa_query.specs.declared.group.Aggregate.{Aggregate}
use Rattle.sa_query.specs.declared.group.Column.{Column}
use Rattle.sa_resolve.specs.Reading.{Sort, condition, value, Reading, no_expr, no_cond}
use Rattle.sa_resolve.specs.Same.{same_aggregate, same_column}

-- The slots of a query that groups: its GROUP BY columns and its aggregates.
pub record Slots : Type 0 where
  pub group : List Column
  pub aggregates : List Aggregate

-- what stands for a column: itself, or the first slot of it where the query groups
abbrev pub expr_of_column : Option Slots → Column → Expr
expr_of_column None column = expr.Column column.table column.column
expr_of_column (Some slots) column = expr.Slot (position_or_len (same_column column) slots.group)

-- what stands for an aggregate: its slot
abbrev pub expr_of_aggregate : Option Slots → Aggregate → Expr
expr_of_aggregate None aggregate = no_expr
expr_of_aggregate (Some slots) aggregate =
    expr.Slot (length slots.group + position_or_len (same_aggregate aggregate) slots.aggregates)

-- the kind of a part, as a value
abbrev pub kind_of : Reading → ExprKind
kind_of part = kind_in part.sort
  where
    kind_in : Sort → ExprKind
    kind_in condition = faulty
    kind_in (value kind) = kind

-- from 0 to 2^40
abbrev pub counted : ExprKind
counted = number (record { least = pos 0; greatest = pos 1099511627776 })

-- what MIN or MAX gives, by what its argument is; NULL counts as 0
abbrev pub extreme : Option ExprKind → ExprKind
extreme None = faulty
extreme (Some null) = number (record { least = pos 0; greatest = pos 0 })
extreme (Some kind) = kind

abbrev pub call_kind : AggregateCall → Option Reading → ExprKind
call_kind CountRows argument = counted
call_kind Count argument = counted
call_kind Sum argument = sum
call_kind Min argument = extreme (option_map kind_of argument)
call_kind Max argument = extreme (option_map kind_of argument)

-- the static interval of a part
abbrev pub interval_in : Reading → Option Interval
interval_in part = interval_of (kind_of part)

-- what arithmetic on two parts gives
abbrev pub arithmetic : (Interval → Interval → Interval) → Reading → Reading → ExprKind
arithmetic operation left right = reached (of_both operation (interval_in left) (interval_in right))

-- what the node is
abbrev pub node_sort : {A : Type 0} → ExprNode-F A Reading → Sort
node_sort (ExprNode-F.Number literal) = value (kind_of_literal (Int literal))
node_sort (ExprNode-F.Text literal) = value text
node_sort ExprNode-F.Null = value null
node_sort (ExprNode-F.Name table column) = value faulty
node_sort (ExprNode-F.Aggregate call argument) = value (call_kind call argument)
node_sort (ExprNode-F.Negate x) = value (reached (option_map negated (interval_in x)))
node_sort (ExprNode-F.Add x y) = value (arithmetic added x y)
node_sort (ExprNode-F.Subtract x y) = value (arithmetic subtracted x y)
node_sort (ExprNode-F.Multiply x y) = value (arithmetic multiplied x y)
node_sort node = condition

-- the aggregate that a call is
abbrev pub aggregate_of : AggregateCall → Option Reading → Aggregate
aggregate_of call argument = record {
  call = call;
  argument = option_map (λ (part : Reading). part.row) argument;
}

-- the value of a number as it is written: an `Int` where it fits, and else a `Big`
abbrev pub number_value : ℤ → Value
number_value literal = if is_bigint literal then Int literal else Big literal

-- What stands for the node, if it is a value, where this stands for its parts and for aggregates.
abbrev pub node_expr : {A : Type 0} → (Reading → Expr) → (Aggregate → Expr)
    → ExprNode-F A Reading → Expr
node_expr of calls (ExprNode-F.Number literal) = expr.Literal (number_value literal)
node_expr of calls (ExprNode-F.Text literal) = expr.Literal (Text literal)
node_expr of calls ExprNode-F.Null = expr.Literal Null
node_expr of calls (ExprNode-F.Aggregate call argument) = calls (aggregate_of call argument)
node_expr of calls (ExprNode-F.Negate x) = expr.Negate (of x)
node_expr of calls (ExprNode-F.Add x y) = expr.Add (of x) (of y)
node_expr of calls (ExprNode-F.Subtract x y) = expr.Subtract (of x) (of y)
node_expr of calls (ExprNode-F.Multiply x y) = expr.Multiply (of x) (of y)
node_expr of calls node = no_expr

-- a condition, or its NOT
abbrev pub turned : (negated : Bool) → Cond → Cond
turned negated positive = if negated then cond.Not positive else positive

-- what stands for the node, if it is a condition; NULL is UNKNOWN there
abbrev pub node_cond : {A : Type 0} → ExprNode-F A Reading → Cond
node_cond ExprNode-F.Null = cond.Known Unknown
node_cond (ExprNode-F.Known holds) = cond.Known (known holds)
node_cond (ExprNode-F.Compare op x y) = cond.Compare op x.expr y.expr
node_cond (ExprNode-F.IsNull x negated) = if negated then cond.NotNull x.expr else cond.IsNull x.expr
node_cond (ExprNode-F.Between x low high negated) =
    turned negated (cond.Between x.expr low.expr high.expr)
node_cond (ExprNode-F.Among x list negated) =
    turned negated (cond.Among x.expr (map (λ (part : Reading). part.expr) list))
node_cond (ExprNode-F.And members) = cond.And (map (λ (part : Reading). part.cond) members)
node_cond (ExprNode-F.Or members) = cond.Or (map (λ (part : Reading). part.cond) members)
node_cond (ExprNode-F.Not x) = cond.Not x.cond
node_cond node = no_cond

-- the parts of a node, in order of the text
abbrev pub parts_of : {A : Type 0} → ExprNode-F A Reading → List Reading
parts_of (ExprNode-F.Aggregate call (Some argument)) = argument ∷ []
parts_of (ExprNode-F.Negate x) = x ∷ []
parts_of (ExprNode-F.Compare op x y) = x ∷ y ∷ []
parts_of (ExprNode-F.IsNull x negated) = x ∷ []
parts_of (ExprNode-F.Between x low high negated) = x ∷ low ∷ high ∷ []
parts_of (ExprNode-F.Among x list negated) = x ∷ list
parts_of (ExprNode-F.And members) = members
parts_of (ExprNode-F.Or members) = members
parts_of (ExprNode-F.Not x) = x ∷ []
parts_of (ExprNode-F.Add x y) = x ∷ y ∷ []
parts_of (ExprNode-F.Subtract x y) = x ∷ y ∷ []
parts_of (ExprNode-F.Multiply x y) = x ∷ y ∷ []
parts_of node = []

-- MIN and MAX of a sum are a sum that lies farther in.
abbrev pub node_sums : {A : Type 0} → (place : ℕ) → ExprNode-F A Reading → ℕ
node_sums place (ExprNode-F.Aggregate Min (Some argument)) = argument.sums
node_sums place (ExprNode-F.Aggregate Max (Some argument)) = argument.sums
node_sums place node = place

abbrev pub node_aggregates : {A : Type 0} → ExprNode-F A Reading → List Aggregate
node_aggregates (ExprNode-F.Aggregate call argument) = aggregate_of call argument ∷ []
node_aggregates node = flat_map (λ (part : Reading). part.aggregates) (parts_of node)

abbrev pub node_calls : {A : Type 0} → (place : ℕ) → ExprNode-F A Reading → List ℕ
node_calls place (ExprNode-F.Aggregate call None) = place ∷ []
node_calls place (ExprNode-F.Aggregate call (Some argument)) = place ∷ argument.calls
node_calls place node = flat_map (λ (part : Reading). part.calls) (parts_of node)

abbrev pub node_loose : {A : Type 0} → ExprNode-F A Reading → List (ℕ × Column)
node_loose (ExprNode-F.Aggregate call argument) = []
node_loose node = flat_map (λ (part : Reading). part.loose) (parts_of node)

abbrev pub node_literals : {A : Type 0} → (place : ℕ) → ExprNode-F A Reading → List ℕ
node_literals place (ExprNode-F.Number literal) = place ∷ []
node_literals place (ExprNode-F.Text literal) = place ∷ []
node_literals place ExprNode-F.Null = place ∷ []
node_literals place node = flat_map (λ (part : Reading). part.literals) (parts_of node)
