use Rattle.sa_simplify.proofs.FoldLemmas.{negate_fits, add_fits, subtract_fits, multiply_fits, negate_at, add_at, subtract_at, multiply_at, operand_stays}
use Rattle.sa_simplify.proofs.fold.+fold.Goals as goal

pub folded_expr-negated-requires : goal.folded_expr-negated-requires
folded_expr-negated-requires t c = negate_fits c.args.expr c.in-Negate.x _ c.in-Negate.is c.in_ok-x-in-Negate.ensures c.requires

pub folded_expr-joined-requires : goal.folded_expr-joined-requires
folded_expr-joined-requires t c =
    add_fits c.args.expr c.in-Add.x c.in-Add.y _ _ c.in-Add.is c.in_ok-x-in-Add.ensures c.in_ok-y-in-Add.ensures c.requires

pub folded_expr-joined-requires-in-Subtract : goal.folded_expr-joined-requires-in-Subtract
folded_expr-joined-requires-in-Subtract t c =
    subtract_fits c.args.expr c.in-Subtract.x c.in-Subtract.y _ _ c.in-Subtract.is c.in_ok-x-in-Subtract.ensures c.in_ok-y-in-Subtract.ensures c.requires

pub folded_expr-joined-requires-in-Multiply : goal.folded_expr-joined-requires-in-Multiply
folded_expr-joined-requires-in-Multiply t c =
    multiply_fits c.args.expr c.in-Multiply.x c.in-Multiply.y _ _ c.in-Multiply.is c.in_ok-x-in-Multiply.ensures c.in_ok-y-in-Multiply.ensures c.requires

pub folded_expr-returns-in_ok-x-in-Negate : goal.folded_expr-returns-in_ok-x-in-Negate
folded_expr-returns-in_ok-x-in-Negate t c = negate_at c.args.expr c.in-Negate.x _ _ c.in-Negate.is c.in_ok-x-in-Negate.ensures c.negated.ensures

pub folded_expr-returns-in_ok-y-in-Add : goal.folded_expr-returns-in_ok-y-in-Add
folded_expr-returns-in_ok-y-in-Add t c =
    add_at c.args.expr c.in-Add.x c.in-Add.y _ _ _ c.in-Add.is c.in_ok-x-in-Add.ensures c.in_ok-y-in-Add.ensures c.joined.ensures

pub folded_expr-returns-in_ok-y-in-Subtract : goal.folded_expr-returns-in_ok-y-in-Subtract
folded_expr-returns-in_ok-y-in-Subtract t c =
    subtract_at c.args.expr c.in-Subtract.x c.in-Subtract.y _ _ _ c.in-Subtract.is c.in_ok-x-in-Subtract.ensures c.in_ok-y-in-Subtract.ensures c.joined-in-Subtract.ensures

pub folded_expr-returns-in_ok-y-in-Multiply : goal.folded_expr-returns-in_ok-y-in-Multiply
folded_expr-returns-in_ok-y-in-Multiply t c =
    multiply_at c.args.expr c.in-Multiply.x c.in-Multiply.y _ _ _ c.in-Multiply.is c.in_ok-x-in-Multiply.ensures c.in_ok-y-in-Multiply.ensures c.joined-in-Multiply.ensures

pub folded_expr-returns-in_default : goal.folded_expr-returns-in_default
folded_expr-returns-in_default t c =
    operand_stays c.args.expr (record {
      no_negate = c.in_default.not-Negate;
      no_add = c.in_default.not-Add;
      no_subtract = c.in_default.not-Subtract;
      no_multiply = c.in_default.not-Multiply;
    })
