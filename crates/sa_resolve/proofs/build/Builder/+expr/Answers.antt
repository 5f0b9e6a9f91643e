use Rattle.std.proofs.Common.{◌≡◌, Some, None, IfOk, sym, ap, subst, ◌∙◌}
use Rattle.sa_ast.specs.declared.expression.ExprNode.TheVariants as node
use Rattle.sa_cond.specs.declared.expr.Expr.{Expr}
use Rattle.sa_resolve.specs.inner.Walking.{built_call}
use Rattle.sa_resolve.proofs.walk.Built.{row_made, built-Name, built-Aggregate, built-Negate, built-Add, built-Subtract, built-Multiply}
use Rattle.sa_resolve.proofs.walk.Standing.{ok_as}
use Rattle.sa_resolve.proofs.build.Builder.+expr.Goals as goal

pub boxed-returns : goal.boxed-returns
boxed-returns t c = λ tables scope listed sees stage.
    c.in_ok-new.ensures ∙ c.in_ok-expr.ensures tables scope listed sees stage

pub call-returns : goal.call-returns
call-returns t c = λ tables scope listed sees stage.
    let row = row_made _ _ _ _ _ c.over_rows.ensures.scope c.over_rows.ensures.stage c.in_ok-row.ensures
    tables scope listed sees in
    subst (λ (row : Expr). IfOk c.slot.result (λ expr. expr
    ≡ built_call scope c.args.self.now.stage (record { call = c.args.call; argument = Some row })))
    row (c.slot.ensures scope listed stage)

pub expr-returns-in-Name : goal.expr-returns-in-Name
expr-returns-in-Name t c = λ tables scope listed sees stage.
    ok_as c.name.result _ _ (built-Name tables scope c.args.self.now.stage c.args.tree.now c.in-Name.table
    c.in-Name.column c.in-Name.is)
    (c.name.ensures tables scope listed c.args.tree.now.place sees stage)

pub expr-returns-in_ok-boxed-in-Negate : goal.expr-returns-in_ok-boxed-in-Negate
expr-returns-in_ok-boxed-in-Negate t c = λ tables scope listed sees stage.
    built-Negate tables scope c.args.self.now.stage c.args.tree.now c.in-Negate.x _ _ c.in-Negate.is
    c.get-in-Negate.ensures
    (c.in_ok-boxed-in-Negate.ensures tables scope listed sees stage)

pub expr-returns-in_ok-boxed-in-Add-2 : goal.expr-returns-in_ok-boxed-in-Add-2
expr-returns-in_ok-boxed-in-Add-2 t c = λ tables scope listed sees stage.
    built-Add tables scope c.args.self.now.stage c.args.tree.now c.in-Add.x c.in-Add.y _ _ _ _
    c.get-in-Add.ensures c.get-in-Add-2.ensures
    (c.in_ok-boxed-in-Add.ensures tables scope listed sees stage)
    (c.in_ok-boxed-in-Add-2.ensures tables scope listed sees stage) c.in-Add.is

pub expr-returns-in_ok-boxed-in-Subtract-2 : goal.expr-returns-in_ok-boxed-in-Subtract-2
expr-returns-in_ok-boxed-in-Subtract-2 t c = λ tables scope listed sees stage.
    built-Subtract tables scope c.args.self.now.stage c.args.tree.now c.in-Subtract.x c.in-Subtract.y _ _ _ _
    c.get-in-Subtract.ensures c.get-in-Subtract-2.ensures
    (c.in_ok-boxed-in-Subtract.ensures tables scope listed sees stage)
    (c.in_ok-boxed-in-Subtract-2.ensures tables scope listed sees stage) c.in-Subtract.is

pub expr-returns-in_ok-boxed-in-Multiply-2 : goal.expr-returns-in_ok-boxed-in-Multiply-2
expr-returns-in_ok-boxed-in-Multiply-2 t c = λ tables scope listed sees stage.
    built-Multiply tables scope c.args.self.now.stage c.args.tree.now c.in-Multiply.x c.in-Multiply.y _ _ _ _
    c.get-in-Multiply.ensures c.get-in-Multiply-2.ensures
    (c.in_ok-boxed-in-Multiply.ensures tables scope listed sees stage)
    (c.in_ok-boxed-in-Multiply-2.ensures tables scope listed sees stage) c.in-Multiply.is

pub expr-returns-in-None : goal.expr-returns-in-None
expr-returns-in-None t c = λ tables scope listed sees stage.
    let rows = c.in-Aggregate.is ∙ ap (λ argument. node.Aggregate c.in-Aggregate.call argument) c.in-None.is
    in
    ok_as c.slot.result _ _ (built-Aggregate tables scope c.args.self.now.stage c.args.tree.now
    c.in-Aggregate.call None rows)
    (c.slot.ensures scope listed stage)

pub expr-returns-in-Some : goal.expr-returns-in-Some
expr-returns-in-Some t c = λ tables scope listed sees stage.
    let got = c.in-Aggregate.is ∙ ap (λ argument. node.Aggregate c.in-Aggregate.call argument) c.in-Some.is
    ∙ ap (λ argument. node.Aggregate c.in-Aggregate.call (Some argument)) (sym c.get.ensures) in
    ok_as c.call.result _ _ (built-Aggregate tables scope c.args.self.now.stage c.args.tree.now
    c.in-Aggregate.call (Some c.get.result.now) got)
    (c.call.ensures tables scope listed sees stage)
