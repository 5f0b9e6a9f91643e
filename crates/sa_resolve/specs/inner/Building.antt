-- What trees are built over, and which reading they are of.
use Rattle.std.specs.Prelude.{◌≡◌, ⊤, List, map, Option, option_map}
use Rattle.sa_ast.specs.declared.expression.ExprNode.{ExprNode, ExprNode-F, out-ExprNode}
use Rattle.sa_ast.specs.declared.expression.ExprTree.{ExprTree}
use Rattle.sa_cond.specs.declared.expr.Expr.{Expr}
use Rattle.sa_table.specs.Table.{Table}
use Rattle.sa_query.specs.declared.item.Item.{Item}
use Rattle.sa_resolve.specs.declared.build.Stage.{Stage}
use Rattle.sa_resolve.specs.declared.build.Stage.TheVariants as stages
use Rattle.sa_resolve.specs.declared.slots.Slots.{Slots as Held}
use Rattle.sa_resolve.specs.Clauses.{item_at, positioned}
use Rattle.sa_resolve.specs.Expression.{Scope, reading}
use Rattle.sa_resolve.specs.Node.{Slots}
use Rattle.sa_resolve.specs.Reading.{Reading}
use Rattle.sa_resolve.specs.Selected.{Selected}

abbrev pub slots_at : Held → Slots
slots_at held = record { group = held.group.items; aggregates = held.aggregates.items }

-- The select list's values are there, and the slots are those of the scope.
pub record IsAnswered (scope : Scope) (listed : List Selected) (slots : Option Held) (items : List Item) : Type 0 where
  pub slots_are : scope.slots ≡ option_map slots_at slots
  pub items_are : map (λ (item : Item). item.value) items ≡ map (λ (one : Selected). one.item.expr) listed

-- what stands at a stage for an expression that is a value
abbrev pub built : Stage → Reading → Expr
built stages.Rows one = one.row
built (stages.Answer slots items) one = one.expr

-- At the stage of the answer there is all that it speaks of.
abbrev pub IsStage : Scope → List Selected → Stage → Type 0
IsStage scope listed stages.Rows = ⊤
IsStage scope listed (stages.Answer slots items) =
    IsAnswered scope listed (option_map (λ held. held.now) slots) items.now

-- The stage is that of the answer.
abbrev pub IsLast : Scope → List Selected → Stage → Type 0
IsLast scope listed stages.Rows = ⊥
IsLast scope listed (stages.Answer slots items) =
    IsAnswered scope listed (option_map (λ held. held.now) slots) items.now

-- the reading of an item of GROUP BY or ORDER BY over this select list
abbrev pub placed : List Table → Scope → List Selected → ExprTree → Reading
placed tables scope listed value = at_node (out-ExprNode value.node)
  where
    at_node : ExprNode-F ExprNode ExprTree → Reading
    at_node (ExprNode-F.Number number) = positioned value.place (item_at listed number)
    at_node node = reading tables scope value
