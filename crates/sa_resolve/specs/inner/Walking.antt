-- What the walk over an expression takes and gives, part by part.
use Rattle.std.specs.Prelude.{◌≡◌, ⊤, ℕ, List, ◌++◌, slice_get, Option, Some, None}
use Rattle.std.specs.List.{flat_map}
use Rattle.sa_ast.specs.declared.expression.ExprNode.{ExprNode, ExprNode-F, out-ExprNode}
use Rattle.sa_ast.specs.declared.expression.ExprTree.{ExprTree}
use Rattle.sa_cond.specs.declared.expr.Expr.{Expr}
use Rattle.sa_cond.specs.Interval.{ExprKind, text, null}
use Rattle.sa_query.specs.declared.group.Aggregate.{Aggregate}
use Rattle.sa_query.specs.declared.item.Item.{Item}
use Rattle.sa_resolve.specs.declared.build.Stage.{Stage}
use Rattle.sa_resolve.specs.declared.build.Stage.TheVariants as stages
use Rattle.sa_resolve.specs.declared.mentions.Mentions.{Mentions}
use Rattle.sa_resolve.specs.Expression.{Scope}
use Rattle.sa_resolve.specs.Node.{expr_of_aggregate}
use Rattle.sa_resolve.specs.Reading.{Reading, no_expr, no_cond}
use Rattle.sa_resolve.specs.Selected.{Selected}
use Rattle.sa_resolve.specs.inner.Looking.{loose_at}

-- what stands at a stage for an aggregate
abbrev pub built_call : Scope → Stage → Aggregate → Expr
built_call scope stages.Rows aggregate = no_expr
built_call scope (stages.Answer slots items) aggregate = expr_of_aggregate scope.slots aggregate

-- the value of an item, if there is one
abbrev pub value_or : Option Item → Expr
value_or None = no_expr
value_or (Some item) = item.value

-- a text or NULL, which is a value of this kind
abbrev pub IsLiteral : ExprKind → ExprNode-F (ℕ → Reading) Reading → Type 0
IsLiteral kind (ExprNode-F.Text literal) = kind ≡ text
IsLiteral kind ExprNode-F.Null = kind ≡ null
IsLiteral kind node = ⊥

-- The node calculates.
abbrev pub IsArithmetic : ExprNode → Type 0
IsArithmetic node = at_node (out-ExprNode node)
  where
    at_node : ExprNode-F ExprNode ExprTree → Type 0
    at_node (ExprNode-F.Negate x) = ⊤
    at_node (ExprNode-F.Add x y) = ⊤
    at_node (ExprNode-F.Subtract x y) = ⊤
    at_node (ExprNode-F.Multiply x y) = ⊤
    at_node node = ⊥

-- The node is a comparison, a BETWEEN, an IN or an IS NULL.
abbrev pub IsTest : ExprNode → Type 0
IsTest node = at_node (out-ExprNode node)
  where
    at_node : ExprNode-F ExprNode ExprTree → Type 0
    at_node (ExprNode-F.Compare op x y) = ⊤
    at_node (ExprNode-F.IsNull x negated) = ⊤
    at_node (ExprNode-F.Between x low high negated) = ⊤
    at_node (ExprNode-F.Among x list negated) = ⊤
    at_node node = ⊥

-- What these expressions mention stands last, in order.
pub record HaveMentioned (before after : Mentions) (ones : List Reading) : Type 0 where
  pub loose : loose_at after.loose.items
      ≡ loose_at before.loose.items ++ flat_map (λ (one : Reading). one.loose) ones
  pub aggregates : after.aggregates.items
      ≡ before.aggregates.items ++ flat_map (λ (one : Reading). one.aggregates) ones
  pub literals : after.literals.items
      ≡ before.literals.items ++ flat_map (λ (one : Reading). one.literals) ones

-- The items of the select list are values, which stand for no condition.
abbrev pub AreValues : List Selected → Type 0
AreValues listed = (number : ℕ) (one : Selected)
    → slice_get listed number ≡ Some one → one.item.cond ≡ no_cond
