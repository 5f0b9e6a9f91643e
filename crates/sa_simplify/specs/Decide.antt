-- The fifth step of simplification: what literals decide is decided.
--
-- A comparison of two literals becomes its truth. Any other comparison with NULL becomes UNKNOWN,
-- but `x <=> NULL` becomes `x IS NULL`, and NOT over it `x IS NOT NULL`. IS of a literal becomes
-- its truth. NOT of a truth becomes its truth.
use Rattle.std.specs.Prelude.{not, Option, Some, None}
use Rattle.sa_value.specs.declared.truth.CompareOp.{CompareOp}
use Rattle.sa_value.specs.declared.truth.CompareOp.TheVariants.{NullEq}
use Rattle.sa_value.specs.declared.truth.Truth.TheVariants.{Unknown}
use Rattle.sa_value.specs.declared.value.Value.{Value}
use Rattle.sa_value.specs.declared.value.Value.TheVariants.{Null}
use Rattle.sa_value.specs.Compare.{known, truth_of}
use Rattle.sa_value.specs.Logic.{negation}
use Rattle.sa_cond.specs.declared.cond.Cond.{Cond, Cond-F, fold-Cond}
use Rattle.sa_cond.specs.declared.cond.Cond.TheVariants.{Known, Compare, IsNull, NotNull, Not}
use Rattle.sa_cond.specs.declared.expr.Expr.{Expr}
use Rattle.sa_cond.specs.Condition.{is_null}
use Rattle.sa_simplify.specs.Node.{of_node, literal_of}

-- a comparison of an expression with NULL
abbrev pub compared_with_null : CompareOp → Expr → Cond
compared_with_null NullEq x = IsNull x
compared_with_null op x = Known Unknown

-- a comparison of two expressions that may be literals
abbrev pub comparison_decided : CompareOp → Option Value → Option Value → Expr → Expr → Cond
comparison_decided op (Some value) (Some other) left right = Known (truth_of op value other)
comparison_decided op (Some Null) None left right = compared_with_null op right
comparison_decided op None (Some Null) left right = compared_with_null op left
comparison_decided op literal other left right = Compare op left right

-- IS NULL of an expression that may be a literal
abbrev pub null_decided : Option Value → Expr → Cond
null_decided None x = IsNull x
null_decided (Some value) x = Known (known (is_null value))

-- IS NOT NULL of an expression that may be a literal
abbrev pub not_null_decided : Option Value → Expr → Cond
not_null_decided None x = NotNull x
not_null_decided (Some value) x = Known (known (not (is_null value)))

-- NOT over a condition, of which NOT over IS NULL comes from `<=> NULL` alone
abbrev pub not_decided : Cond → Cond
not_decided (Known truth) = Known (negation truth)
not_decided (IsNull x) = NotNull x
not_decided cond = Not cond

-- One node, with what became of its members in their place.
abbrev pub node_decided : Cond-F Cond → Cond
node_decided (Cond-F.Compare op left right) =
    comparison_decided op (literal_of left) (literal_of right) left right
node_decided (Cond-F.IsNull x) = null_decided (literal_of x) x
node_decided (Cond-F.NotNull x) = not_null_decided (literal_of x) x
node_decided (Cond-F.Not x) = not_decided x
node_decided node = of_node node

-- the whole condition
unfoldable pub decided : Cond → Cond
decided = fold-Cond Cond node_decided
