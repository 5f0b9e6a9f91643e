-- What stands at a stage for an expression of each form, if it is a value.
use Rattle.std.proofs.Common.{◌≡◌, ℕ, Option, List, option_map, refl, sym, ap, subst, ◌∙◌}
use Rattle.sa_ast.specs.declared.expression.AggregateCall.{AggregateCall}
use Rattle.sa_ast.specs.declared.expression.ExprNode.{ExprNode-F}
use Rattle.sa_ast.specs.declared.expression.ExprNode.TheVariants as node
use Rattle.sa_ast.specs.declared.expression.ExprTree.{ExprTree}
use Rattle.sa_cond.specs.declared.expr.Expr.{Expr}
use Rattle.sa_cond.specs.declared.expr.Expr.TheVariants as exprs
use Rattle.sa_table.specs.Table.{Table}
use Rattle.sa_resolve.specs.declared.build.Stage.{Stage}
use Rattle.sa_resolve.specs.declared.build.Stage.TheVariants as stages
use Rattle.sa_resolve.specs.declared.scope.Scope.{Scope as View}
use Rattle.sa_resolve.specs.Expression.{Scope, node_reading, reading, name_reading}
use Rattle.sa_resolve.specs.Node.{aggregate_of}
use Rattle.sa_resolve.specs.Reading.{Reading}
use Rattle.sa_resolve.specs.Selected.{Selected}
use Rattle.sa_resolve.specs.inner.Building.{IsStage, built}
use Rattle.sa_resolve.specs.inner.Names.{Sees}
use Rattle.sa_resolve.specs.inner.Walking.{built_call}
use Rattle.sa_resolve.proofs.walk.Readings.{reading-Name, reading-Aggregate, reading-Negate, reading-Add, reading-Subtract, reading-Multiply}

-- what stands over rows, for a builder over what this view sees
pub row_made : (view there : View) (stage : Stage) (argument : ExprTree) (row : Expr) → there ≡ view → stage
    ≡ stages.Rows
    → ((tables : List Table) (scope : Scope) (listed : List Selected) → Sees tables scope listed there
    → IsStage scope listed stage
    → row ≡ built stage (reading tables scope argument))
    → (tables : List Table) (scope : Scope) (listed : List Selected) → Sees tables scope listed view
    → row ≡ (reading tables scope argument).row
row_made view there stage argument row same over made tables scope listed sees =
    made tables scope listed (subst (Sees tables scope listed) (sym same) sees)
    (subst (IsStage scope listed) (sym over) tt)
    ∙ ap (λ (stage : Stage). built stage (reading tables scope argument)) over

module _ (tables : List Table) (scope : Scope) where
  call_at : (stage : Stage) (call : AggregateCall) (argument : Option Reading) (place : ℕ)
      → built_call scope stage (aggregate_of call argument)
      ≡ built stage (node_reading tables scope (ExprNode-F.Aggregate call argument) place)
  call_at stages.Rows call argument place = refl
  call_at (stages.Answer slots items) call argument place = refl

  negate_at : (stage : Stage) (x : Reading) (place : ℕ)
      → exprs.Negate (built stage x) ≡ built stage (node_reading tables scope (ExprNode-F.Negate x) place)
  negate_at stages.Rows x place = refl
  negate_at (stages.Answer slots items) x place = refl

  add_at : (stage : Stage) (x y : Reading) (place : ℕ)
      → exprs.Add (built stage x) (built stage y) ≡ built stage
      (node_reading tables scope (ExprNode-F.Add x y) place)
  add_at stages.Rows x y place = refl
  add_at (stages.Answer slots items) x y place = refl

  subtract_at : (stage : Stage) (x y : Reading) (place : ℕ)
      → exprs.Subtract (built stage x) (built stage y)
      ≡ built stage (node_reading tables scope (ExprNode-F.Subtract x y) place)
  subtract_at stages.Rows x y place = refl
  subtract_at (stages.Answer slots items) x y place = refl

  multiply_at : (stage : Stage) (x y : Reading) (place : ℕ)
      → exprs.Multiply (built stage x) (built stage y)
      ≡ built stage (node_reading tables scope (ExprNode-F.Multiply x y) place)
  multiply_at stages.Rows x y place = refl
  multiply_at (stages.Answer slots items) x y place = refl

  module _ (stage : Stage) (tree : ExprTree) where
    pub built-Name : (table : Option (List ℕ)) (column : List ℕ) → tree.node ≡ node.Name table column
        → built stage (name_reading tables scope tree.place table column)
        ≡ built stage (reading tables scope tree)
    built-Name table column is = ap (built stage) (sym (reading-Name tables scope tree table column is))

    pub built-Aggregate : (call : AggregateCall) (argument : Option ExprTree) → tree.node
        ≡ node.Aggregate call argument
        → built_call scope stage (aggregate_of call (option_map (reading tables scope) argument))
        ≡ built stage (reading tables scope tree)
    built-Aggregate call argument is =
        call_at stage call (option_map (reading tables scope) argument) tree.place
        ∙ ap (built stage) (sym (reading-Aggregate tables scope tree call argument is))

    pub built-Negate : (x got : ExprTree) (inner : Expr) → tree.node ≡ node.Negate x → got ≡ x
        → inner ≡ built stage (reading tables scope got) → exprs.Negate inner
        ≡ built stage (reading tables scope tree)
    built-Negate x got inner is same made =
        ap (λ x. exprs.Negate x) (made ∙ ap (λ x. built stage (reading tables scope x)) same)
        ∙ negate_at stage (reading tables scope x) tree.place
        ∙ ap (built stage) (sym (reading-Negate tables scope tree x is))

    module _ (x y left right : ExprTree) (one other : Expr) (same_left : left ≡ x) (same_right : right ≡ y)
        (made_left : one ≡ built stage (reading tables scope left))
        (made_right : other ≡ built stage (reading tables scope right)) where
      first_made : one ≡ built stage (reading tables scope x)
      first_made = made_left ∙ ap (λ x. built stage (reading tables scope x)) same_left

      second_made : other ≡ built stage (reading tables scope y)
      second_made = made_right ∙ ap (λ x. built stage (reading tables scope x)) same_right

      pub built-Add : tree.node ≡ node.Add x y → exprs.Add one other ≡ built stage (reading tables scope tree)
      built-Add is =
          ap (λ one. exprs.Add one other) first_made
          ∙ ap (λ other. exprs.Add (built stage (reading tables scope x)) other) second_made
          ∙ add_at stage (reading tables scope x) (reading tables scope y) tree.place
          ∙ ap (built stage) (sym (reading-Add tables scope tree x y is))

      pub built-Subtract : tree.node ≡ node.Subtract x y → exprs.Subtract one other
          ≡ built stage (reading tables scope tree)
      built-Subtract is =
          ap (λ one. exprs.Subtract one other) first_made
          ∙ ap (λ other. exprs.Subtract (built stage (reading tables scope x)) other) second_made
          ∙ subtract_at stage (reading tables scope x) (reading tables scope y) tree.place
          ∙ ap (built stage) (sym (reading-Subtract tables scope tree x y is))

      pub built-Multiply : tree.node ≡ node.Multiply x y → exprs.Multiply one other
          ≡ built stage (reading tables scope tree)
      built-Multiply is =
          ap (λ one. exprs.Multiply one other) first_made
          ∙ ap (λ other. exprs.Multiply (built stage (reading tables scope x)) other) second_made
          ∙ multiply_at stage (reading tables scope x) (reading tables scope y) tree.place
          ∙ ap (built stage) (sym (reading-Multiply tables scope tree x y is))
