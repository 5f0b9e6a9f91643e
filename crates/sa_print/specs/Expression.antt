-- The canonical text of an expression.
use Rattle.std.specs.Prelude.{ℕ, Bool, List, [], ◌++◌, codes, if◌then◌else◌, Option, Some, None}
use Rattle.std.specs.Fmt.{signed_decimal}
use Rattle.sa_value.specs.declared.truth.CompareOp.{CompareOp}
use Rattle.sa_value.specs.declared.truth.CompareOp.TheVariants.{Eq, NullEq, Ne, Lt, Le, Gt, Ge}
use Rattle.sa_ast.specs.declared.expression.AggregateCall.{AggregateCall}
use Rattle.sa_ast.specs.declared.expression.AggregateCall.TheVariants.{CountRows, Count, Sum, Min, Max}
use Rattle.sa_ast.specs.declared.expression.ExprNode.{ExprNode-F}
use Rattle.sa_ast.specs.declared.expression.ExprTree.{ExprTree, fold-ExprTree}
use Rattle.sa_print.specs.Quoted.{canonical_literal}
use Rattle.sa_print.specs.Name.{canonical_column}
use Rattle.sa_print.specs.Lists.{joined, listed, bracketed}

-- the sign of a comparison
abbrev pub comparison_sign : CompareOp → List ℕ
comparison_sign Eq = codes "="
comparison_sign NullEq = codes "<=>"
comparison_sign Ne = codes "<>"
comparison_sign Lt = codes "<"
comparison_sign Le = codes "<="
comparison_sign Gt = codes ">"
comparison_sign Ge = codes ">="

-- the name of an aggregate
abbrev pub call_name : AggregateCall → List ℕ
call_name CountRows = codes "COUNT"
call_name Count = codes "COUNT"
call_name Sum = codes "SUM"
call_name Min = codes "MIN"
call_name Max = codes "MAX"

-- what an aggregate is of; a call without an argument is of all rows
abbrev pub argument_text : Option (List ℕ) → List ℕ
argument_text None = codes "*"
argument_text (Some argument) = argument

abbrev pub truth_text : Bool → List ℕ
truth_text holds = if holds then codes "TRUE" else codes "FALSE"

abbrev pub not_text : Bool → List ℕ
not_text negated = if negated then codes "NOT " else []

-- two operands with a sign between them
abbrev pub operation_text : List ℕ → List ℕ → List ℕ → List ℕ
operation_text x sign y = bracketed (x ++ codes " " ++ sign ++ codes " " ++ y)

-- One node, with the text of each expression below in its place.
abbrev pub node_text : ExprNode-F (List ℕ) (List ℕ) → List ℕ
node_text (ExprNode-F.Number number) = signed_decimal number
node_text (ExprNode-F.Text text) = canonical_literal text
node_text ExprNode-F.Null = codes "NULL"
node_text (ExprNode-F.Known holds) = truth_text holds
node_text (ExprNode-F.Name table column) = canonical_column table column
node_text (ExprNode-F.Aggregate call argument) = call_name call ++ bracketed (argument_text argument)
node_text (ExprNode-F.Negate x) = bracketed (codes "-" ++ x)
node_text (ExprNode-F.Compare op x y) = operation_text x (comparison_sign op) y
node_text (ExprNode-F.IsNull x negated) =
    bracketed (x ++ codes " IS " ++ not_text negated ++ codes "NULL")
node_text (ExprNode-F.Between x low high negated) =
    bracketed (x ++ codes " " ++ not_text negated ++ codes "BETWEEN " ++ low ++ codes " AND " ++ high)
node_text (ExprNode-F.Among x list negated) =
    bracketed (x ++ codes " " ++ not_text negated ++ codes "IN " ++ bracketed (listed list))
node_text (ExprNode-F.And members) = bracketed (joined (codes " AND ") members)
node_text (ExprNode-F.Or members) = bracketed (joined (codes " OR ") members)
node_text (ExprNode-F.Not x) = bracketed (codes "NOT " ++ x)
node_text (ExprNode-F.Add x y) = operation_text x (codes "+") y
node_text (ExprNode-F.Subtract x y) = operation_text x (codes "-") y
node_text (ExprNode-F.Multiply x y) = operation_text x (codes "*") y

-- the whole expression
abbrev pub canonical_expr : ExprTree → List ℕ
canonical_expr = fold-ExprTree (List ℕ) (List ℕ) node_text (λ tree. tree.node)
