-- Trees whose aggregates have the arguments that a text gives them. Some that no text gives, such as
-- MIN without an argument, have no fault.
use Rattle.std.specs.Prelude.{◌≡◌, ◌≤◌, ⊤, Bool, true, false, ◌&&◌, length, All, Some, None}
use Rattle.std.specs.List.{list_all}
use Rattle.std.specs.Option.{IfSome}
use Rattle.sa_ast.specs.declared.expression.AggregateCall.TheVariants.{CountRows}
use Rattle.sa_ast.specs.declared.expression.ExprNode.{ExprNode-F}
use Rattle.sa_ast.specs.declared.expression.ExprTree.{ExprTree, fold-ExprTree}
use Rattle.sa_ast.specs.declared.select.GroupTree.{GroupTree}
use Rattle.sa_ast.specs.declared.select.ItemNode.{ItemNode}
use Rattle.sa_ast.specs.declared.select.ItemNode.TheVariants.{Value}
use Rattle.sa_ast.specs.declared.select.ItemTree.{ItemTree}
use Rattle.sa_ast.specs.declared.select.OrderTree.{OrderTree}
use Rattle.sa_ast.specs.declared.select.SelectTree.{SelectTree}
use Rattle.sa_ast.specs.declared.select.TableTree.{TableTree}

-- One node, with whether each expression below is proper in its place. A call has an argument
-- exactly where it isn't COUNT(*).
abbrev pub proper_node : {A : Type 0} → ExprNode-F A Bool → Bool
proper_node (ExprNode-F.Aggregate CountRows None) = true
proper_node (ExprNode-F.Aggregate CountRows (Some argument)) = false
proper_node (ExprNode-F.Aggregate call None) = false
proper_node (ExprNode-F.Aggregate call (Some argument)) = argument
proper_node (ExprNode-F.Negate x) = x
proper_node (ExprNode-F.Compare op x y) = x && y
proper_node (ExprNode-F.IsNull x negated) = x
proper_node (ExprNode-F.Between x low high negated) = x && low && high
proper_node (ExprNode-F.Among x list negated) = x && list_all (λ proper. proper) list
proper_node (ExprNode-F.And members) = list_all (λ proper. proper) members
proper_node (ExprNode-F.Or members) = list_all (λ proper. proper) members
proper_node (ExprNode-F.Not x) = x
proper_node (ExprNode-F.Add x y) = x && y
proper_node (ExprNode-F.Subtract x y) = x && y
proper_node (ExprNode-F.Multiply x y) = x && y
proper_node node = true

-- the whole expression
abbrev pub is_proper_expr : ExprTree → Bool
is_proper_expr = fold-ExprTree Bool Bool proper_node (λ tree. tree.node)

abbrev pub IsProperExpr : ExprTree → Type 0
IsProperExpr value = is_proper_expr value ≡ true

abbrev pub IsProperItem : ItemNode → Type 0
IsProperItem (Value value alias) = IsProperExpr value
IsProperItem node = ⊤

-- A tree has a table, and each of its expressions is proper.
pub record IsProperTree (tree : SelectTree) : Type 0 where
  pub from : 1 ≤ length tree.from
  pub on : All (λ (one : TableTree). IfSome one.on IsProperExpr) tree.from
  pub filter : IfSome tree.filter IsProperExpr
  pub items : All (λ (one : ItemTree). IsProperItem one.item) tree.items
  pub group : All (λ (one : GroupTree). IsProperExpr one.value) tree.group
  pub having : IfSome tree.having IsProperExpr
  pub order : All (λ (one : OrderTree). IsProperExpr one.value) tree.order
