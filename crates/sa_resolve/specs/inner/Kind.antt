-- What the sorts and kinds of the code stand for.
use Rattle.std.specs.Prelude.{Bool, true, false, ◌&&◌, ◌||◌, Option, Some, None}
use Rattle.sa_ast.specs.declared.expression.AggregateCall.{AggregateCall}
use Rattle.sa_ast.specs.declared.expression.AggregateCall.TheVariants.{CountRows, Count, Sum, Min, Max}
use Rattle.sa_cond.specs.Interval.{Interval, ExprKind, number, sum, text, null, faulty, added, subtracted, multiplied}
use Rattle.sa_resolve.specs.Node.{counted, extreme}
use Rattle.sa_resolve.specs.NodeFaults.{is_number, is_text}
use Rattle.sa_resolve.specs.Reading.{Sort, condition, value}
use Rattle.sa_resolve.specs.declared.kind.Kind.{Kind}
use Rattle.sa_resolve.specs.declared.kind.Kind.TheVariants as kinds
use Rattle.sa_resolve.specs.declared.kind.Sort.{Sort as Known}
use Rattle.sa_resolve.specs.declared.kind.Sort.TheVariants as sorts
use Rattle.sa_resolve.specs.declared.reach.Operation.{Operation}
use Rattle.sa_resolve.specs.declared.reach.Operation.TheVariants.{Add, Subtract, Multiply}
use Rattle.sa_resolve.specs.declared.reach.Reach.{Reach}
use Rattle.sa_resolve.specs.declared.reach.Reach.TheVariants.{Nothing, Past, Within}
use Rattle.sa_resolve.specs.inner.Ends.{interval_at}

abbrev pub kind_at : Kind → ExprKind
kind_at (kinds.Number ends) = number (interval_at ends)
kind_at kinds.Sum = sum
kind_at kinds.Text = text
kind_at kinds.Null = null
kind_at kinds.Faulty = faulty

abbrev pub sort_at : Known → Sort
sort_at sorts.Condition = condition
sort_at (sorts.Value kind) = value (kind_at kind)

abbrev pub operation_at : Operation → Interval → Interval → Interval
operation_at Add = added
operation_at Subtract = subtracted
operation_at Multiply = multiplied

-- the kind of what is reached
abbrev pub reach_kind : Reach → ExprKind
reach_kind Nothing = faulty
reach_kind Past = faulty
reach_kind (Within ends) = number (interval_at ends)

-- whether it leaves the range of BIGINT
abbrev pub reach_leaves : Reach → Bool
reach_leaves Nothing = false
reach_leaves Past = true
reach_leaves (Within ends) = false

-- the kind of an interval that was found within the range
abbrev pub found_kind : Option Interval → ExprKind
found_kind None = faulty
found_kind (Some interval) = number interval

abbrev pub is_null : ExprKind → Bool
is_null null = true
is_null kind = false

-- the kind as a value
abbrev pub kind_in : Sort → ExprKind
kind_in condition = faulty
kind_in (value kind) = kind

-- what an aggregate gives, by the kind of its argument
abbrev pub kind_of_call : AggregateCall → Option ExprKind → ExprKind
kind_of_call CountRows argument = counted
kind_of_call Count argument = counted
kind_of_call Sum argument = sum
kind_of_call Min argument = extreme argument
kind_of_call Max argument = extreme argument

-- whether a number is compared with a text
abbrev pub kinds_clash : ExprKind → ExprKind → Bool
kinds_clash x y = (is_text x && is_number y) || (is_number x && is_text y)
