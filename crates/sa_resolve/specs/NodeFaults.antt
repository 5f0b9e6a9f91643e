-- What is wrong with one node of an expression, sentence by sentence.
use Rattle.std.specs.Prelude.{ℕ, Bool, true, false, ◌&&◌, ◌||◌, List, [], ◌++◌, map, Option, Some, is_some, option_map}
use Rattle.std.specs.List.{flat_map, list_any}
use Rattle.sa_value.specs.declared.value.Value.TheVariants.{Int}
use Rattle.sa_ast.specs.declared.expression.AggregateCall.TheVariants.{Sum}
use Rattle.sa_ast.specs.declared.expression.ExprNode.{ExprNode-F}
use Rattle.sa_cond.specs.Interval.{Interval, ExprKind, number, sum, text, null, faulty, reached, of_both, negated, added, subtracted, multiplied, kind_of_literal}
use Rattle.sa_query.specs.declared.refusal.ResolveKind.TheVariants.{TypeMismatch, ExprRange, GroupRule}
use Rattle.sa_resolve.specs.Fault.{Fault, fault_at, told}
use Rattle.sa_resolve.specs.Node.{kind_of, interval_in, parts_of}
use Rattle.sa_resolve.specs.Reading.{Sort, condition, value, Reading}

-- whether something is no value, and whether it is no condition; NULL is both
abbrev pub is_condition : Sort → Bool
is_condition condition = true
is_condition (value kind) = false

abbrev pub is_value : Sort → Bool
is_value condition = false
is_value (value null) = false
is_value (value kind) = true

-- A condition where a value has to stand, or a value where a condition has to, is of the wrong
-- kind. That is its own fault, and not that of what stands around it.
abbrev pub no_value : Reading → List Fault
no_value part = told (is_condition part.sort) TypeMismatch part.place

abbrev pub no_condition : Reading → List Fault
no_condition part = told (is_value part.sort) TypeMismatch part.place

-- The members of AND, OR and NOT are conditions, and all other parts are values.
abbrev pub wrong_kinds : {A : Type 0} → ExprNode-F A Reading → List Fault
wrong_kinds (ExprNode-F.And members) = flat_map no_condition members
wrong_kinds (ExprNode-F.Or members) = flat_map no_condition members
wrong_kinds (ExprNode-F.Not x) = no_condition x
wrong_kinds node = flat_map no_value (parts_of node)

abbrev pub is_text : ExprKind → Bool
is_text text = true
is_text kind = false

abbrev pub is_number : ExprKind → Bool
is_number (number interval) = true
is_number sum = true
is_number kind = false

abbrev pub is_sum : ExprKind → Bool
is_sum sum = true
is_sum kind = false

abbrev pub is_faulty : ExprKind → Bool
is_faulty faulty = true
is_faulty kind = false

-- whether a number is compared with a text
abbrev pub clashes : Reading → Reading → Bool
clashes x y =
    (is_text (kind_of x) && is_number (kind_of y)) || (is_number (kind_of x) && is_text (kind_of y))

-- whether the node compares a number with a text, or calculates or sums over a text
abbrev pub mixes_types : {A : Type 0} → ExprNode-F A Reading → Bool
mixes_types (ExprNode-F.Compare op x y) = clashes x y
mixes_types (ExprNode-F.Between x low high negated) = clashes x low || clashes x high
mixes_types (ExprNode-F.Among x list negated) = list_any (clashes x) list
mixes_types (ExprNode-F.Aggregate Sum (Some argument)) = is_text (kind_of argument)
mixes_types (ExprNode-F.Negate x) = is_text (kind_of x)
mixes_types (ExprNode-F.Add x y) = is_text (kind_of x) || is_text (kind_of y)
mixes_types (ExprNode-F.Subtract x y) = is_text (kind_of x) || is_text (kind_of y)
mixes_types (ExprNode-F.Multiply x y) = is_text (kind_of x) || is_text (kind_of y)
mixes_types node = false

-- whether an interval that is reached leaves the range of BIGINT
abbrev pub leaves : Option Interval → Bool
leaves reach = is_some reach && is_faulty (reached reach)

abbrev pub both_leave : (Interval → Interval → Interval) → Reading → Reading → Bool
both_leave operation x y = leaves (of_both operation (interval_in x) (interval_in y))

-- whether the node itself leaves the range of BIGINT, and none of its parts
abbrev pub is_out_of_range : {A : Type 0} → ExprNode-F A Reading → Bool
is_out_of_range (ExprNode-F.Number literal) = is_faulty (kind_of_literal (Int literal))
is_out_of_range (ExprNode-F.Negate x) = leaves (option_map negated (interval_in x))
is_out_of_range (ExprNode-F.Add x y) = both_leave added x y
is_out_of_range (ExprNode-F.Subtract x y) = both_leave subtracted x y
is_out_of_range (ExprNode-F.Multiply x y) = both_leave multiplied x y
is_out_of_range node = false

-- A sum has no static interval: in arithmetic it leaves the range.
abbrev pub sum_in : Reading → List Fault
sum_in part = told (is_sum (kind_of part)) ExprRange part.sums

abbrev pub summed : {A : Type 0} → ExprNode-F A Reading → List Fault
summed (ExprNode-F.Negate x) = sum_in x
summed (ExprNode-F.Add x y) = sum_in x ++ sum_in y
summed (ExprNode-F.Subtract x y) = sum_in x ++ sum_in y
summed (ExprNode-F.Multiply x y) = sum_in x ++ sum_in y
summed node = []

-- An aggregate in an aggregate breaks the rules of grouping.
abbrev pub nested : {A : Type 0} → ExprNode-F A Reading → List Fault
nested (ExprNode-F.Aggregate call (Some argument)) = map (fault_at GroupRule) argument.calls
nested node = []

-- What is wrong with the node; its parts' faults are their own.
abbrev pub node_faults : {A : Type 0} → (place : ℕ) → ExprNode-F A Reading → List Fault
node_faults place node =
    wrong_kinds node
    ++ told (mixes_types node) TypeMismatch place
    ++ told (is_out_of_range node) ExprRange place
    ++ summed node
    ++ nested node
