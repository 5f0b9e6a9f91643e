-- The definitions at examples: they give these texts, byte for byte.
use Rattle.std.proofs.Common.{◌≡◌, ℕ, ℤ, List, ◌∷◌, [], pos, negsuc, codes, refl, Option, Some, None, false, true}
use Rattle.std.specs.Fmt.{digits}
use Rattle.sa_value.specs.declared.truth.CompareOp.{CompareOp}
use Rattle.sa_value.specs.declared.truth.CompareOp.TheVariants.{Eq, NullEq, Ne, Lt, Le, Gt, Ge}
use Rattle.sa_ast.specs.declared.expression.AggregateCall.{AggregateCall}
use Rattle.sa_ast.specs.declared.expression.AggregateCall.TheVariants.{CountRows, Count, Sum, Min, Max}
use Rattle.sa_ast.specs.declared.expression.ExprNode.{ExprNode}
use Rattle.sa_ast.specs.declared.expression.ExprNode.TheVariants as node
use Rattle.sa_ast.specs.declared.expression.ExprTree.{ExprTree, roll-ExprTree, the_lemmas}
use Rattle.sa_print.specs.Quoted.{between_quotes, canonical_literal}
use Rattle.sa_print.specs.Name.{canonical_name}
use Rattle.sa_lexer.specs.Reserved.{is_reserved}
use Rattle.sa_print.specs.Expression.{canonical_expr}

-- names

abbrev name_texts : List (List ℕ) → List (List ℕ)
name_texts [] = []
name_texts (name ∷ names) = canonical_name name ∷ name_texts names

pub bare : (names : List (List ℕ)) → names ≡ codes "a" ∷ codes "_x$9" ∷ codes "été" ∷ codes "selected" ∷ codes "count" ∷ [] → name_texts names ≡ names
unfolding canonical_name is_reserved
bare names is = rw is refl

pub in_backquotes :
    name_texts (codes "order" ∷ codes "Straight_Join" ∷ codes "a b" ∷ codes "a`b" ∷ codes "`" ∷ codes "1a" ∷ codes "" ∷ codes "a\\b" ∷ codes "a.b" ∷ [])
    ≡ codes "`order`" ∷ codes "`Straight_Join`" ∷ codes "`a b`" ∷ codes "`a``b`" ∷ codes "````" ∷ codes "`1a`" ∷ codes "``" ∷ codes "`a\\b`" ∷ codes "`a.b`" ∷ []
unfolding canonical_name is_reserved between_quotes
in_backquotes = refl

-- texts

pub literal : canonical_literal (codes "it's a \\ and a \" and a `") ≡ codes "'it''s a \\\\ and a \" and a `'"
unfolding between_quotes
literal = refl

pub literal-empty : canonical_literal [] ≡ codes "''"
unfolding between_quotes
literal-empty = refl

-- expressions

abbrev at : ExprNode → ExprTree
at node = roll-ExprTree (record { node = node; place = 0 })

abbrev column : List ℕ → ExprTree
column name = at (node.Name None name)

abbrev a : ExprTree
a = column (codes "a")

abbrev b : ExprTree
b = column (codes "b")

abbrev c : ExprTree
c = at (node.Name (Some (codes "t")) (codes "c"))

abbrev number : ℤ → ExprTree
number n = at (node.Number n)

abbrev texts : List ExprTree → List (List ℕ)
texts [] = []
texts (tree ∷ trees) = canonical_expr tree ∷ texts trees

pub leaves :
    texts (a ∷ c ∷ number (pos 0) ∷ number (negsuc 0) ∷ number (pos 99999999999999999999999999999999999999) ∷ at (node.Text (codes "x'y")) ∷ at node.Null ∷ at (node.Known true) ∷ at (node.Known false) ∷ [])
    ≡ codes "a" ∷ codes "t.c" ∷ codes "0" ∷ codes "-1" ∷ codes "99999999999999999999999999999999999999" ∷ codes "'x''y'" ∷ codes "NULL" ∷ codes "TRUE" ∷ codes "FALSE" ∷ []
unfolding canonical_name is_reserved between_quotes digits
leaves = simp the_lemmas

abbrev compared : CompareOp → ExprTree
compared op = at (node.Compare op a (number (pos 2)))

pub comparisons :
    texts (compared Eq ∷ compared NullEq ∷ compared Ne ∷ compared Lt ∷ compared Le ∷ compared Gt ∷ compared Ge ∷ [])
    ≡ codes "(a = 2)" ∷ codes "(a <=> 2)" ∷ codes "(a <> 2)" ∷ codes "(a < 2)" ∷ codes "(a <= 2)" ∷ codes "(a > 2)" ∷ codes "(a >= 2)" ∷ []
unfolding canonical_name is_reserved digits
comparisons = simp the_lemmas

pub predicates :
    texts (at (node.IsNull a false) ∷ at (node.IsNull a true) ∷ at (node.Between a (number (pos 1)) c false) ∷ at (node.Between a (number (pos 1)) c true)
    ∷ at (node.Among a (number (pos 1) ∷ number (pos 2) ∷ []) false) ∷ at (node.Among a (b ∷ []) true) ∷ [])
    ≡ codes "(a IS NULL)" ∷ codes "(a IS NOT NULL)" ∷ codes "(a BETWEEN 1 AND t.c)" ∷ codes "(a NOT BETWEEN 1 AND t.c)"
    ∷ codes "(a IN (1, 2))" ∷ codes "(a NOT IN (b))" ∷ []
unfolding canonical_name is_reserved digits
predicates = simp the_lemmas

pub connectives :
    texts (at (node.And (a ∷ b ∷ c ∷ [])) ∷ at (node.Or (at (node.And (a ∷ b ∷ [])) ∷ at (node.Not c) ∷ [])) ∷ [])
    ≡ codes "(a AND b AND t.c)" ∷ codes "((a AND b) OR (NOT t.c))" ∷ []
unfolding canonical_name is_reserved
connectives = simp the_lemmas

pub arithmetic :
    texts (at (node.Add a (at (node.Multiply b c))) ∷ at (node.Subtract a (number (negsuc 4))) ∷ at (node.Negate a) ∷ [])
    ≡ codes "(a + (b * t.c))" ∷ codes "(a - -5)" ∷ codes "(-a)" ∷ []
unfolding canonical_name is_reserved digits
arithmetic = simp the_lemmas

abbrev aggregate : AggregateCall → Option ExprTree → ExprTree
aggregate call argument = at (node.Aggregate call argument)

pub aggregates :
    texts (aggregate CountRows None ∷ aggregate Count (Some a) ∷ aggregate Sum (Some a) ∷ aggregate Min (Some c) ∷ aggregate Max (Some (at (node.Negate a))) ∷ [])
    ≡ codes "COUNT(*)" ∷ codes "COUNT(a)" ∷ codes "SUM(a)" ∷ codes "MIN(t.c)" ∷ codes "MAX((-a))" ∷ []
unfolding canonical_name is_reserved
aggregates = simp the_lemmas
