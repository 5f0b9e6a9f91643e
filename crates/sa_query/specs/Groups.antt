-- The groups of a SELECT that groups, and what its aggregates give.
-- Source: MariaDB Knowledge Base, "GROUP BY" and "Aggregate Functions": NULLs are one group; an aggregate but
-- COUNT(*) leaves NULLs out; COUNT of nothing is 0, and any other aggregate of nothing NULL.
use Rattle.std.specs.Prelude.{ℤ, pos, ◌+ℤ◌, Bool, not, List, [], ◌∷◌, ◌++◌, map, fold, length, slice_index_or, Option, Some, None, unwrap_or, if◌then◌else◌}
use Rattle.std.specs.List.{filter}
use Rattle.std.specs.Ordering.{is_lt, is_gt}
use Rattle.sa_value.specs.declared.value.Value.{Value}
use Rattle.sa_value.specs.declared.value.Value.TheVariants.{Null, Int, Big}
use Rattle.sa_value.specs.Compare.{order_of}
use Rattle.sa_ast.specs.declared.expression.AggregateCall.{AggregateCall}
use Rattle.sa_ast.specs.declared.expression.AggregateCall.TheVariants.{CountRows, Count, Sum, Min, Max}
use Rattle.sa_cond.specs.declared.expr.Expr.{Expr}
use Rattle.sa_cond.specs.Choice.{Choice}
use Rattle.sa_cond.specs.Condition.{is_null}
use Rattle.sa_cond.specs.Expression.{number_of, expr_value}
use Rattle.sa_table.specs.AddRow.{same_tuple}
use Rattle.sa_query.specs.declared.group.Aggregate.{Aggregate}
use Rattle.sa_query.specs.declared.group.Column.{Column}
use Rattle.sa_query.specs.declared.query.Query.{Query}

-- the members of a list that are like none before them
abbrev pub firsts : {A : Type 0} → (A → A → Bool) → List A → List A
firsts alike [] = []
firsts alike (one ∷ others) = one ∷ filter (λ other. not (alike one other)) (firsts alike others)

-- the values of the GROUP BY columns
abbrev pub tuple_of : List Column → Choice → List Value
tuple_of columns choice = map (λ (one : Column). choice.cell one.table one.column) columns

-- Each tuple that stands in the choices, once. Without GROUP BY there is one group, of all choices,
-- and be there none.
abbrev pub tuples : List Column → List Choice → List (List Value)
tuples [] kept = [] ∷ []
tuples (column ∷ columns) kept = firsts same_tuple (map (tuple_of (column ∷ columns)) kept)

-- the choices of a group
abbrev pub members : List Column → List Choice → (tuple : List Value) → List Choice
members columns kept tuple = filter (λ choice. same_tuple tuple (tuple_of columns choice)) kept

-- what an argument gives for these choices, without NULLs
abbrev pub arguments : Expr → List Choice → List Value
arguments argument group =
    filter (λ value. not (is_null value)) (map (λ choice. expr_value choice argument) group)

-- the sum of numbers, without bounds
abbrev pub total : List Value → ℤ
total values =
    fold (λ sum number. sum +ℤ number) (pos 0)
    (map (λ value. unwrap_or (number_of value) (pos 0)) values)

-- the sum of values; NULL where there is none
abbrev pub sum_of : List Value → Value
sum_of [] = Null
sum_of (value ∷ values) = Big (total (value ∷ values))

-- the value that comes before all others; NULL where there is none
abbrev pub first_of : (Value → Value → Bool) → List Value → Value
first_of before [] = Null
first_of before (value ∷ values) =
    fold (λ best other. if before other best then other else best) value values

-- what an aggregate gives for the values of its argument that aren't NULL
abbrev pub applied_to : AggregateCall → List Value → Value
applied_to CountRows values = Int (pos (length values))
applied_to Count values = Int (pos (length values))
applied_to Sum values = sum_of values
applied_to Min values = first_of (λ a b. is_lt (order_of a b)) values
applied_to Max values = first_of (λ a b. is_gt (order_of a b)) values

-- what an aggregate gives for a group; one without an argument counts its choices
abbrev pub aggregate_value : List Choice → Aggregate → Value
aggregate_value group aggregate = value_with aggregate.argument
  where
    value_with : Option Expr → Value
    value_with None = Int (pos (length group))
    value_with (Some argument) = applied_to aggregate.call (arguments argument group)

-- what the slots of a group stand for: the GROUP BY columns and then the aggregates
abbrev pub slots_of : Query → List Choice → (tuple : List Value) → List Value
slots_of query kept tuple =
    tuple ++ map (aggregate_value (members query.group kept tuple)) query.aggregates

abbrev pub group_of : Query → List Choice → (tuple : List Value) → Choice
group_of query kept tuple = record {
  cell = λ position column. Null;
  slot = λ number. slice_index_or (slots_of query kept tuple) number Null;
}

-- all groups, in the order of their first choices
abbrev pub groups : Query → List Choice → List Choice
groups query kept = map (group_of query kept) (tuples query.group kept)
