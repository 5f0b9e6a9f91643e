-- The canonical text of each node of an expression, and the node without its places.
use Rattle.std.proofs.Common.{◌≡◌, ℕ, ℤ, Bool, List, ◌++◌, map, Option, Some, None, codes}
use Rattle.std.specs.Fmt.{signed_decimal}
use Rattle.std.specs.Option.{option_map}
use Rattle.sa_value.specs.declared.truth.CompareOp.{CompareOp}
use Rattle.sa_ast.specs.declared.expression.AggregateCall.{AggregateCall}
use Rattle.sa_ast.specs.declared.expression.ExprNode.TheVariants as node
use Rattle.sa_ast.specs.declared.expression.ExprTree.{ExprTree, the_lemmas}
use Rattle.sa_ast.specs.Place.{unplaced_expr}
use Rattle.sa_print.specs.Expression.{canonical_expr, comparison_sign, call_name, argument_text, truth_text, not_text, operation_text}
use Rattle.sa_print.specs.Lists.{bracketed, joined, listed}
use Rattle.sa_print.specs.Name.{canonical_column}
use Rattle.sa_print.specs.Quoted.{canonical_literal}
use Rattle.sa_parser.specs.Tree.{tree}

pub text-Number : (place : ℕ) (number : ℤ) → canonical_expr (tree place (node.Number number)) ≡ signed_decimal number
text-Number place number = simp the_lemmas

pub text-Text : (place : ℕ) (text : List ℕ) → canonical_expr (tree place (node.Text text)) ≡ canonical_literal text
text-Text place text = simp the_lemmas

pub text-Null : (place : ℕ) → canonical_expr (tree place node.Null) ≡ codes "NULL"
text-Null place = simp the_lemmas

pub text-Known : (place : ℕ) (holds : Bool) → canonical_expr (tree place (node.Known holds)) ≡ truth_text holds
text-Known place holds = simp the_lemmas

pub text-Name : (place : ℕ) (table : Option (List ℕ)) (column : List ℕ) → canonical_expr (tree place (node.Name table column)) ≡ canonical_column table column
text-Name place table column = simp the_lemmas

pub text-Aggregate : (place : ℕ) (call : AggregateCall) (argument : Option ExprTree) → canonical_expr (tree place (node.Aggregate call argument)) ≡ call_name call ++ bracketed (argument_text (option_map canonical_expr argument))
text-Aggregate place call None = simp the_lemmas
text-Aggregate place call (Some argument) = simp the_lemmas

pub text-Negate : (place : ℕ) (x : ExprTree) → canonical_expr (tree place (node.Negate x)) ≡ bracketed (codes "-" ++ canonical_expr x)
text-Negate place x = simp the_lemmas

pub text-Compare : (place : ℕ) (op : CompareOp) (x y : ExprTree) → canonical_expr (tree place (node.Compare op x y)) ≡ operation_text (canonical_expr x) (comparison_sign op) (canonical_expr y)
text-Compare place op x y = simp the_lemmas

pub text-IsNull : (place : ℕ) (x : ExprTree) (negated : Bool) → canonical_expr (tree place (node.IsNull x negated)) ≡ bracketed (canonical_expr x ++ codes " IS " ++ not_text negated ++ codes "NULL")
text-IsNull place x negated = simp the_lemmas

pub text-Between : (place : ℕ) (x low high : ExprTree) (negated : Bool) → canonical_expr (tree place (node.Between x low high negated)) ≡ bracketed (canonical_expr x ++ codes " " ++ not_text negated ++ codes "BETWEEN " ++ canonical_expr low ++ codes " AND " ++ canonical_expr high)
text-Between place x low high negated = simp the_lemmas

pub text-Among : (place : ℕ) (x : ExprTree) (list : List ExprTree) (negated : Bool) → canonical_expr (tree place (node.Among x list negated)) ≡ bracketed (canonical_expr x ++ codes " " ++ not_text negated ++ codes "IN " ++ bracketed (listed (map canonical_expr list)))
text-Among place x list negated = simp the_lemmas

pub text-And : (place : ℕ) (members : List ExprTree) → canonical_expr (tree place (node.And members)) ≡ bracketed (joined (codes " AND ") (map canonical_expr members))
text-And place members = simp the_lemmas

pub text-Or : (place : ℕ) (members : List ExprTree) → canonical_expr (tree place (node.Or members)) ≡ bracketed (joined (codes " OR ") (map canonical_expr members))
text-Or place members = simp the_lemmas

pub text-Not : (place : ℕ) (x : ExprTree) → canonical_expr (tree place (node.Not x)) ≡ bracketed (codes "NOT " ++ canonical_expr x)
text-Not place x = simp the_lemmas

pub text-Add : (place : ℕ) (x y : ExprTree) → canonical_expr (tree place (node.Add x y)) ≡ operation_text (canonical_expr x) (codes "+") (canonical_expr y)
text-Add place x y = simp the_lemmas

pub text-Subtract : (place : ℕ) (x y : ExprTree) → canonical_expr (tree place (node.Subtract x y)) ≡ operation_text (canonical_expr x) (codes "-") (canonical_expr y)
text-Subtract place x y = simp the_lemmas

pub text-Multiply : (place : ℕ) (x y : ExprTree) → canonical_expr (tree place (node.Multiply x y)) ≡ operation_text (canonical_expr x) (codes "*") (canonical_expr y)
text-Multiply place x y = simp the_lemmas

pub bare-Number : (place : ℕ) (number : ℤ) → unplaced_expr (tree place (node.Number number)) ≡ tree 0 (node.Number number)
bare-Number place number = simp the_lemmas

pub bare-Text : (place : ℕ) (text : List ℕ) → unplaced_expr (tree place (node.Text text)) ≡ tree 0 (node.Text text)
bare-Text place text = simp the_lemmas

pub bare-Null : (place : ℕ) → unplaced_expr (tree place node.Null) ≡ tree 0 node.Null
bare-Null place = simp the_lemmas

pub bare-Known : (place : ℕ) (holds : Bool) → unplaced_expr (tree place (node.Known holds)) ≡ tree 0 (node.Known holds)
bare-Known place holds = simp the_lemmas

pub bare-Name : (place : ℕ) (table : Option (List ℕ)) (column : List ℕ) → unplaced_expr (tree place (node.Name table column)) ≡ tree 0 (node.Name table column)
bare-Name place table column = simp the_lemmas

pub bare-Aggregate : (place : ℕ) (call : AggregateCall) (argument : Option ExprTree) → unplaced_expr (tree place (node.Aggregate call argument)) ≡ tree 0 (node.Aggregate call (option_map unplaced_expr argument))
bare-Aggregate place call None = simp the_lemmas
bare-Aggregate place call (Some argument) = simp the_lemmas

pub bare-Negate : (place : ℕ) (x : ExprTree) → unplaced_expr (tree place (node.Negate x)) ≡ tree 0 (node.Negate (unplaced_expr x))
bare-Negate place x = simp the_lemmas

pub bare-Compare : (place : ℕ) (op : CompareOp) (x y : ExprTree) → unplaced_expr (tree place (node.Compare op x y)) ≡ tree 0 (node.Compare op (unplaced_expr x) (unplaced_expr y))
bare-Compare place op x y = simp the_lemmas

pub bare-IsNull : (place : ℕ) (x : ExprTree) (negated : Bool) → unplaced_expr (tree place (node.IsNull x negated)) ≡ tree 0 (node.IsNull (unplaced_expr x) negated)
bare-IsNull place x negated = simp the_lemmas

pub bare-Between : (place : ℕ) (x low high : ExprTree) (negated : Bool) → unplaced_expr (tree place (node.Between x low high negated)) ≡ tree 0 (node.Between (unplaced_expr x) (unplaced_expr low) (unplaced_expr high) negated)
bare-Between place x low high negated = simp the_lemmas

pub bare-Among : (place : ℕ) (x : ExprTree) (list : List ExprTree) (negated : Bool) → unplaced_expr (tree place (node.Among x list negated)) ≡ tree 0 (node.Among (unplaced_expr x) (map unplaced_expr list) negated)
bare-Among place x list negated = simp the_lemmas

pub bare-And : (place : ℕ) (members : List ExprTree) → unplaced_expr (tree place (node.And members)) ≡ tree 0 (node.And (map unplaced_expr members))
bare-And place members = simp the_lemmas

pub bare-Or : (place : ℕ) (members : List ExprTree) → unplaced_expr (tree place (node.Or members)) ≡ tree 0 (node.Or (map unplaced_expr members))
bare-Or place members = simp the_lemmas

pub bare-Not : (place : ℕ) (x : ExprTree) → unplaced_expr (tree place (node.Not x)) ≡ tree 0 (node.Not (unplaced_expr x))
bare-Not place x = simp the_lemmas

pub bare-Add : (place : ℕ) (x y : ExprTree) → unplaced_expr (tree place (node.Add x y)) ≡ tree 0 (node.Add (unplaced_expr x) (unplaced_expr y))
bare-Add place x y = simp the_lemmas

pub bare-Subtract : (place : ℕ) (x y : ExprTree) → unplaced_expr (tree place (node.Subtract x y)) ≡ tree 0 (node.Subtract (unplaced_expr x) (unplaced_expr y))
bare-Subtract place x y = simp the_lemmas

pub bare-Multiply : (place : ℕ) (x y : ExprTree) → unplaced_expr (tree place (node.Multiply x y)) ≡ tree 0 (node.Multiply (unplaced_expr x) (unplaced_expr y))
bare-Multiply place x y = simp the_lemmas
