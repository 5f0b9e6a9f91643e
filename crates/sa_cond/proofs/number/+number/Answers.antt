use Rattle.std.proofs.Common.{◌+ℤ◌, ◌-ℤ◌, ◌*ℤ◌, All, sym, subst, rules}
use Rattle.sa_cond.specs.declared.expr.Expr.{the_lemmas}
use Rattle.sa_cond.specs.declared.expr.Expr.TheVariants as node
use Rattle.sa_cond.specs.Choice.{Choice}
use Rattle.sa_cond.specs.Cited.{Name, IsThere, CanEvaluate, expr_names}
use Rattle.sa_cond.specs.Interval.{added, subtracted, multiplied}
use Rattle.sa_cond.proofs.IntervalLemmas.{is_addition, is_subtraction, is_multiplication}
use Rattle.sa_cond.proofs.Arithmetic.{column_name, slot_name, Operates, operates, answer-none_left, answer-none, answer-some, SFits-some, negated_names, negated_can, negated-none, negated-some, SFits-negated}
use Rattle.sa_cond.proofs.number.+number.Goals as goal

pub number-cell-requires : goal.number-cell-requires
number-cell-requires g t c =
    let there : Name → Type 0 = IsThere (g.R.Cells.has_cell c.args.rows.now) (g.R.Cells.has_slot c.args.rows.now) in
    column_name there c.in-Column.table c.in-Column.column c.args.expr.now c.in-Column.is c.requires.there

pub operand-cell-requires : goal.operand-cell-requires
operand-cell-requires g t c =
    let there : Name → Type 0 = IsThere (g.R.Cells.has_cell c.args.rows.now) (g.R.Cells.has_slot c.args.rows.now) in
    column_name there c.in-Column.table c.in-Column.column c.args.expr.now c.in-Column.is c.requires.there

pub number-slot-requires : goal.number-slot-requires
number-slot-requires g t c =
    let there : Name → Type 0 = IsThere (g.R.Cells.has_cell c.args.rows.now) (g.R.Cells.has_slot c.args.rows.now) in
    slot_name there c.in-Slot.number c.args.expr.now c.in-Slot.is c.requires.there

pub number-operand-requires : goal.number-operand-requires
number-operand-requires g t c κs within =
    let there : Name → Type 0 = IsThere (g.R.Cells.has_cell c.args.rows.now) (g.R.Cells.has_slot c.args.rows.now) in
    let choice : Choice = record { cell = g.R.Cells.cell_of c.args.rows.now; slot = g.R.Cells.slot_of c.args.rows.now } in
    let is_named = negated_names there choice c.args.expr.now c.in-Negate.x c.in-Negate.is c.requires.there c.requires.typed in
    let can = negated_can there choice c.args.expr.now c.in-Negate.x c.in-Negate.is c.requires.there c.requires.typed in
    (search (rules, the_lemmas), (search rules, (subst (λ expr. All there (expr_names expr)) (sym c.get.ensures) is_named, subst (CanEvaluate choice) (sym c.get.ensures) can)))

pub number-returns-in_err-operand-in-Negate : goal.number-returns-in_err-operand-in-Negate
number-returns-in_err-operand-in-Negate g t c =
    let there : Name → Type 0 = IsThere (g.R.Cells.has_cell c.args.rows.now) (g.R.Cells.has_slot c.args.rows.now) in
    let choice : Choice = record { cell = g.R.Cells.cell_of c.args.rows.now; slot = g.R.Cells.slot_of c.args.rows.now } in
    let none = negated-none there choice c.args.expr.now c.in-Negate.x c.in-Negate.is c.requires.there c.requires.typed c.get.result.now c.get.ensures c.in_err-operand-in-Negate.ensures in
    cc

pub number-overflow_sub-result : goal.number-overflow_sub-result
number-overflow_sub-result g t c =
    let there : Name → Type 0 = IsThere (g.R.Cells.has_cell c.args.rows.now) (g.R.Cells.has_slot c.args.rows.now) in
    let choice : Choice = record { cell = g.R.Cells.cell_of c.args.rows.now; slot = g.R.Cells.slot_of c.args.rows.now } in
    SFits-negated there choice c.args.expr.now c.in-Negate.x c.in-Negate.is c.requires.there c.requires.typed c.get.result.now c.get.ensures c.in_ok-operand-in-Negate.field-0 c.in_ok-operand-in-Negate.ensures

pub number-returns-in_ok-operand-in-Negate : goal.number-returns-in_ok-operand-in-Negate
number-returns-in_ok-operand-in-Negate g t c =
    let there : Name → Type 0 = IsThere (g.R.Cells.has_cell c.args.rows.now) (g.R.Cells.has_slot c.args.rows.now) in
    let choice : Choice = record { cell = g.R.Cells.cell_of c.args.rows.now; slot = g.R.Cells.slot_of c.args.rows.now } in
    negated-some there choice c.args.expr.now c.in-Negate.x c.in-Negate.is c.requires.there c.requires.typed c.get.result.now c.get.ensures c.in_ok-operand-in-Negate.field-0 c.in_ok-operand-in-Negate.ensures

pub number-operand-requires-in-Add : goal.number-operand-requires-in-Add
number-operand-requires-in-Add g t c κs within =
    let there : Name → Type 0 = IsThere (g.R.Cells.has_cell c.args.rows.now) (g.R.Cells.has_slot c.args.rows.now) in
    let choice : Choice = record { cell = g.R.Cells.cell_of c.args.rows.now; slot = g.R.Cells.slot_of c.args.rows.now } in
    let at : Operates there choice (λ x y. x +ℤ y) c.args.expr.now c.in-Add.left c.in-Add.right =
    operates node.Add (λ x y. x +ℤ y) added is_addition there choice c.args.expr.now c.in-Add.left c.in-Add.right c.in-Add.is c.requires.there c.requires.typed in
    (search (rules, the_lemmas), (search rules, (subst (λ expr. All there (expr_names expr)) (sym c.get-in-Add.ensures) at.left_names, subst (CanEvaluate choice) (sym c.get-in-Add.ensures) at.left_can)))

pub number-returns-in_err-operand-in-Add : goal.number-returns-in_err-operand-in-Add
number-returns-in_err-operand-in-Add g t c =
    let there : Name → Type 0 = IsThere (g.R.Cells.has_cell c.args.rows.now) (g.R.Cells.has_slot c.args.rows.now) in
    let choice : Choice = record { cell = g.R.Cells.cell_of c.args.rows.now; slot = g.R.Cells.slot_of c.args.rows.now } in
    let at : Operates there choice (λ x y. x +ℤ y) c.args.expr.now c.in-Add.left c.in-Add.right =
    operates node.Add (λ x y. x +ℤ y) added is_addition there choice c.args.expr.now c.in-Add.left c.in-Add.right c.in-Add.is c.requires.there c.requires.typed in
    let none = answer-none_left there choice (λ x y. x +ℤ y) c.args.expr.now c.in-Add.left c.in-Add.right c.get-in-Add.result.now at c.get-in-Add.ensures c.in_err-operand-in-Add.ensures in
    cc

pub number-operand-requires-in-Add-2 : goal.number-operand-requires-in-Add-2
number-operand-requires-in-Add-2 g t c κs within =
    let there : Name → Type 0 = IsThere (g.R.Cells.has_cell c.args.rows.now) (g.R.Cells.has_slot c.args.rows.now) in
    let choice : Choice = record { cell = g.R.Cells.cell_of c.args.rows.now; slot = g.R.Cells.slot_of c.args.rows.now } in
    let at : Operates there choice (λ x y. x +ℤ y) c.args.expr.now c.in-Add.left c.in-Add.right =
    operates node.Add (λ x y. x +ℤ y) added is_addition there choice c.args.expr.now c.in-Add.left c.in-Add.right c.in-Add.is c.requires.there c.requires.typed in
    (search (rules, the_lemmas), (search rules, (subst (λ expr. All there (expr_names expr)) (sym c.get-in-Add-2.ensures) at.right_names, subst (CanEvaluate choice) (sym c.get-in-Add-2.ensures) at.right_can)))

pub number-returns-in_err-operand-in-Add-2 : goal.number-returns-in_err-operand-in-Add-2
number-returns-in_err-operand-in-Add-2 g t c =
    let there : Name → Type 0 = IsThere (g.R.Cells.has_cell c.args.rows.now) (g.R.Cells.has_slot c.args.rows.now) in
    let choice : Choice = record { cell = g.R.Cells.cell_of c.args.rows.now; slot = g.R.Cells.slot_of c.args.rows.now } in
    let at : Operates there choice (λ x y. x +ℤ y) c.args.expr.now c.in-Add.left c.in-Add.right =
    operates node.Add (λ x y. x +ℤ y) added is_addition there choice c.args.expr.now c.in-Add.left c.in-Add.right c.in-Add.is c.requires.there c.requires.typed in
    let none = answer-none there choice (λ x y. x +ℤ y) c.args.expr.now c.in-Add.left c.in-Add.right c.get-in-Add.result.now c.get-in-Add-2.result.now at c.get-in-Add.ensures c.get-in-Add-2.ensures c.in_err-operand-in-Add-2.ensures in
    cc

pub number-overflow_add-result : goal.number-overflow_add-result
number-overflow_add-result g t c =
    let there : Name → Type 0 = IsThere (g.R.Cells.has_cell c.args.rows.now) (g.R.Cells.has_slot c.args.rows.now) in
    let choice : Choice = record { cell = g.R.Cells.cell_of c.args.rows.now; slot = g.R.Cells.slot_of c.args.rows.now } in
    let at : Operates there choice (λ x y. x +ℤ y) c.args.expr.now c.in-Add.left c.in-Add.right =
    operates node.Add (λ x y. x +ℤ y) added is_addition there choice c.args.expr.now c.in-Add.left c.in-Add.right c.in-Add.is c.requires.there c.requires.typed in
    SFits-some there choice (λ x y. x +ℤ y) c.args.expr.now c.in-Add.left c.in-Add.right c.get-in-Add.result.now c.get-in-Add-2.result.now at c.get-in-Add.ensures c.get-in-Add-2.ensures c.in_ok-operand-in-Add.field-0 c.in_ok-operand-in-Add-2.field-0 c.in_ok-operand-in-Add.ensures c.in_ok-operand-in-Add-2.ensures

pub number-returns-in_ok-operand-in-Add-2 : goal.number-returns-in_ok-operand-in-Add-2
number-returns-in_ok-operand-in-Add-2 g t c =
    let there : Name → Type 0 = IsThere (g.R.Cells.has_cell c.args.rows.now) (g.R.Cells.has_slot c.args.rows.now) in
    let choice : Choice = record { cell = g.R.Cells.cell_of c.args.rows.now; slot = g.R.Cells.slot_of c.args.rows.now } in
    let at : Operates there choice (λ x y. x +ℤ y) c.args.expr.now c.in-Add.left c.in-Add.right =
    operates node.Add (λ x y. x +ℤ y) added is_addition there choice c.args.expr.now c.in-Add.left c.in-Add.right c.in-Add.is c.requires.there c.requires.typed in
    answer-some there choice (λ x y. x +ℤ y) c.args.expr.now c.in-Add.left c.in-Add.right c.get-in-Add.result.now c.get-in-Add-2.result.now at c.get-in-Add.ensures c.get-in-Add-2.ensures c.in_ok-operand-in-Add.field-0 c.in_ok-operand-in-Add-2.field-0 c.in_ok-operand-in-Add.ensures c.in_ok-operand-in-Add-2.ensures

pub number-operand-requires-in-Subtract : goal.number-operand-requires-in-Subtract
number-operand-requires-in-Subtract g t c κs within =
    let there : Name → Type 0 = IsThere (g.R.Cells.has_cell c.args.rows.now) (g.R.Cells.has_slot c.args.rows.now) in
    let choice : Choice = record { cell = g.R.Cells.cell_of c.args.rows.now; slot = g.R.Cells.slot_of c.args.rows.now } in
    let at : Operates there choice (λ x y. x -ℤ y) c.args.expr.now c.in-Subtract.left c.in-Subtract.right =
    operates node.Subtract (λ x y. x -ℤ y) subtracted is_subtraction there choice c.args.expr.now c.in-Subtract.left c.in-Subtract.right c.in-Subtract.is c.requires.there c.requires.typed in
    (search (rules, the_lemmas), (search rules, (subst (λ expr. All there (expr_names expr)) (sym c.get-in-Subtract.ensures) at.left_names, subst (CanEvaluate choice) (sym c.get-in-Subtract.ensures) at.left_can)))

pub number-returns-in_err-operand-in-Subtract : goal.number-returns-in_err-operand-in-Subtract
number-returns-in_err-operand-in-Subtract g t c =
    let there : Name → Type 0 = IsThere (g.R.Cells.has_cell c.args.rows.now) (g.R.Cells.has_slot c.args.rows.now) in
    let choice : Choice = record { cell = g.R.Cells.cell_of c.args.rows.now; slot = g.R.Cells.slot_of c.args.rows.now } in
    let at : Operates there choice (λ x y. x -ℤ y) c.args.expr.now c.in-Subtract.left c.in-Subtract.right =
    operates node.Subtract (λ x y. x -ℤ y) subtracted is_subtraction there choice c.args.expr.now c.in-Subtract.left c.in-Subtract.right c.in-Subtract.is c.requires.there c.requires.typed in
    let none = answer-none_left there choice (λ x y. x -ℤ y) c.args.expr.now c.in-Subtract.left c.in-Subtract.right c.get-in-Subtract.result.now at c.get-in-Subtract.ensures c.in_err-operand-in-Subtract.ensures in
    cc

pub number-operand-requires-in-Subtract-2 : goal.number-operand-requires-in-Subtract-2
number-operand-requires-in-Subtract-2 g t c κs within =
    let there : Name → Type 0 = IsThere (g.R.Cells.has_cell c.args.rows.now) (g.R.Cells.has_slot c.args.rows.now) in
    let choice : Choice = record { cell = g.R.Cells.cell_of c.args.rows.now; slot = g.R.Cells.slot_of c.args.rows.now } in
    let at : Operates there choice (λ x y. x -ℤ y) c.args.expr.now c.in-Subtract.left c.in-Subtract.right =
    operates node.Subtract (λ x y. x -ℤ y) subtracted is_subtraction there choice c.args.expr.now c.in-Subtract.left c.in-Subtract.right c.in-Subtract.is c.requires.there c.requires.typed in
    (search (rules, the_lemmas), (search rules, (subst (λ expr. All there (expr_names expr)) (sym c.get-in-Subtract-2.ensures) at.right_names, subst (CanEvaluate choice) (sym c.get-in-Subtract-2.ensures) at.right_can)))

pub number-returns-in_err-operand-in-Subtract-2 : goal.number-returns-in_err-operand-in-Subtract-2
number-returns-in_err-operand-in-Subtract-2 g t c =
    let there : Name → Type 0 = IsThere (g.R.Cells.has_cell c.args.rows.now) (g.R.Cells.has_slot c.args.rows.now) in
    let choice : Choice = record { cell = g.R.Cells.cell_of c.args.rows.now; slot = g.R.Cells.slot_of c.args.rows.now } in
    let at : Operates there choice (λ x y. x -ℤ y) c.args.expr.now c.in-Subtract.left c.in-Subtract.right =
    operates node.Subtract (λ x y. x -ℤ y) subtracted is_subtraction there choice c.args.expr.now c.in-Subtract.left c.in-Subtract.right c.in-Subtract.is c.requires.there c.requires.typed in
    let none = answer-none there choice (λ x y. x -ℤ y) c.args.expr.now c.in-Subtract.left c.in-Subtract.right c.get-in-Subtract.result.now c.get-in-Subtract-2.result.now at c.get-in-Subtract.ensures c.get-in-Subtract-2.ensures c.in_err-operand-in-Subtract-2.ensures in
    cc

pub number-overflow_sub-result-in-Subtract : goal.number-overflow_sub-result-in-Subtract
number-overflow_sub-result-in-Subtract g t c =
    let there : Name → Type 0 = IsThere (g.R.Cells.has_cell c.args.rows.now) (g.R.Cells.has_slot c.args.rows.now) in
    let choice : Choice = record { cell = g.R.Cells.cell_of c.args.rows.now; slot = g.R.Cells.slot_of c.args.rows.now } in
    let at : Operates there choice (λ x y. x -ℤ y) c.args.expr.now c.in-Subtract.left c.in-Subtract.right =
    operates node.Subtract (λ x y. x -ℤ y) subtracted is_subtraction there choice c.args.expr.now c.in-Subtract.left c.in-Subtract.right c.in-Subtract.is c.requires.there c.requires.typed in
    SFits-some there choice (λ x y. x -ℤ y) c.args.expr.now c.in-Subtract.left c.in-Subtract.right c.get-in-Subtract.result.now c.get-in-Subtract-2.result.now at c.get-in-Subtract.ensures c.get-in-Subtract-2.ensures c.in_ok-operand-in-Subtract.field-0 c.in_ok-operand-in-Subtract-2.field-0 c.in_ok-operand-in-Subtract.ensures c.in_ok-operand-in-Subtract-2.ensures

pub number-returns-in_ok-operand-in-Subtract-2 : goal.number-returns-in_ok-operand-in-Subtract-2
number-returns-in_ok-operand-in-Subtract-2 g t c =
    let there : Name → Type 0 = IsThere (g.R.Cells.has_cell c.args.rows.now) (g.R.Cells.has_slot c.args.rows.now) in
    let choice : Choice = record { cell = g.R.Cells.cell_of c.args.rows.now; slot = g.R.Cells.slot_of c.args.rows.now } in
    let at : Operates there choice (λ x y. x -ℤ y) c.args.expr.now c.in-Subtract.left c.in-Subtract.right =
    operates node.Subtract (λ x y. x -ℤ y) subtracted is_subtraction there choice c.args.expr.now c.in-Subtract.left c.in-Subtract.right c.in-Subtract.is c.requires.there c.requires.typed in
    answer-some there choice (λ x y. x -ℤ y) c.args.expr.now c.in-Subtract.left c.in-Subtract.right c.get-in-Subtract.result.now c.get-in-Subtract-2.result.now at c.get-in-Subtract.ensures c.get-in-Subtract-2.ensures c.in_ok-operand-in-Subtract.field-0 c.in_ok-operand-in-Subtract-2.field-0 c.in_ok-operand-in-Subtract.ensures c.in_ok-operand-in-Subtract-2.ensures

pub number-operand-requires-in-Multiply : goal.number-operand-requires-in-Multiply
number-operand-requires-in-Multiply g t c κs within =
    let there : Name → Type 0 = IsThere (g.R.Cells.has_cell c.args.rows.now) (g.R.Cells.has_slot c.args.rows.now) in
    let choice : Choice = record { cell = g.R.Cells.cell_of c.args.rows.now; slot = g.R.Cells.slot_of c.args.rows.now } in
    let at : Operates there choice (λ x y. x *ℤ y) c.args.expr.now c.in-Multiply.left c.in-Multiply.right =
    operates node.Multiply (λ x y. x *ℤ y) multiplied is_multiplication there choice c.args.expr.now c.in-Multiply.left c.in-Multiply.right c.in-Multiply.is c.requires.there c.requires.typed in
    (search (rules, the_lemmas), (search rules, (subst (λ expr. All there (expr_names expr)) (sym c.get-in-Multiply.ensures) at.left_names, subst (CanEvaluate choice) (sym c.get-in-Multiply.ensures) at.left_can)))

pub number-returns-in_err-operand-in-Multiply : goal.number-returns-in_err-operand-in-Multiply
number-returns-in_err-operand-in-Multiply g t c =
    let there : Name → Type 0 = IsThere (g.R.Cells.has_cell c.args.rows.now) (g.R.Cells.has_slot c.args.rows.now) in
    let choice : Choice = record { cell = g.R.Cells.cell_of c.args.rows.now; slot = g.R.Cells.slot_of c.args.rows.now } in
    let at : Operates there choice (λ x y. x *ℤ y) c.args.expr.now c.in-Multiply.left c.in-Multiply.right =
    operates node.Multiply (λ x y. x *ℤ y) multiplied is_multiplication there choice c.args.expr.now c.in-Multiply.left c.in-Multiply.right c.in-Multiply.is c.requires.there c.requires.typed in
    let none = answer-none_left there choice (λ x y. x *ℤ y) c.args.expr.now c.in-Multiply.left c.in-Multiply.right c.get-in-Multiply.result.now at c.get-in-Multiply.ensures c.in_err-operand-in-Multiply.ensures in
    cc

pub number-operand-requires-in-Multiply-2 : goal.number-operand-requires-in-Multiply-2
number-operand-requires-in-Multiply-2 g t c κs within =
    let there : Name → Type 0 = IsThere (g.R.Cells.has_cell c.args.rows.now) (g.R.Cells.has_slot c.args.rows.now) in
    let choice : Choice = record { cell = g.R.Cells.cell_of c.args.rows.now; slot = g.R.Cells.slot_of c.args.rows.now } in
    let at : Operates there choice (λ x y. x *ℤ y) c.args.expr.now c.in-Multiply.left c.in-Multiply.right =
    operates node.Multiply (λ x y. x *ℤ y) multiplied is_multiplication there choice c.args.expr.now c.in-Multiply.left c.in-Multiply.right c.in-Multiply.is c.requires.there c.requires.typed in
    (search (rules, the_lemmas), (search rules, (subst (λ expr. All there (expr_names expr)) (sym c.get-in-Multiply-2.ensures) at.right_names, subst (CanEvaluate choice) (sym c.get-in-Multiply-2.ensures) at.right_can)))

pub number-returns-in_err-operand-in-Multiply-2 : goal.number-returns-in_err-operand-in-Multiply-2
number-returns-in_err-operand-in-Multiply-2 g t c =
    let there : Name → Type 0 = IsThere (g.R.Cells.has_cell c.args.rows.now) (g.R.Cells.has_slot c.args.rows.now) in
    let choice : Choice = record { cell = g.R.Cells.cell_of c.args.rows.now; slot = g.R.Cells.slot_of c.args.rows.now } in
    let at : Operates there choice (λ x y. x *ℤ y) c.args.expr.now c.in-Multiply.left c.in-Multiply.right =
    operates node.Multiply (λ x y. x *ℤ y) multiplied is_multiplication there choice c.args.expr.now c.in-Multiply.left c.in-Multiply.right c.in-Multiply.is c.requires.there c.requires.typed in
    let none = answer-none there choice (λ x y. x *ℤ y) c.args.expr.now c.in-Multiply.left c.in-Multiply.right c.get-in-Multiply.result.now c.get-in-Multiply-2.result.now at c.get-in-Multiply.ensures c.get-in-Multiply-2.ensures c.in_err-operand-in-Multiply-2.ensures in
    cc

pub number-overflow_mul-result : goal.number-overflow_mul-result
number-overflow_mul-result g t c =
    let there : Name → Type 0 = IsThere (g.R.Cells.has_cell c.args.rows.now) (g.R.Cells.has_slot c.args.rows.now) in
    let choice : Choice = record { cell = g.R.Cells.cell_of c.args.rows.now; slot = g.R.Cells.slot_of c.args.rows.now } in
    let at : Operates there choice (λ x y. x *ℤ y) c.args.expr.now c.in-Multiply.left c.in-Multiply.right =
    operates node.Multiply (λ x y. x *ℤ y) multiplied is_multiplication there choice c.args.expr.now c.in-Multiply.left c.in-Multiply.right c.in-Multiply.is c.requires.there c.requires.typed in
    SFits-some there choice (λ x y. x *ℤ y) c.args.expr.now c.in-Multiply.left c.in-Multiply.right c.get-in-Multiply.result.now c.get-in-Multiply-2.result.now at c.get-in-Multiply.ensures c.get-in-Multiply-2.ensures c.in_ok-operand-in-Multiply.field-0 c.in_ok-operand-in-Multiply-2.field-0 c.in_ok-operand-in-Multiply.ensures c.in_ok-operand-in-Multiply-2.ensures

pub number-returns-in_ok-operand-in-Multiply-2 : goal.number-returns-in_ok-operand-in-Multiply-2
number-returns-in_ok-operand-in-Multiply-2 g t c =
    let there : Name → Type 0 = IsThere (g.R.Cells.has_cell c.args.rows.now) (g.R.Cells.has_slot c.args.rows.now) in
    let choice : Choice = record { cell = g.R.Cells.cell_of c.args.rows.now; slot = g.R.Cells.slot_of c.args.rows.now } in
    let at : Operates there choice (λ x y. x *ℤ y) c.args.expr.now c.in-Multiply.left c.in-Multiply.right =
    operates node.Multiply (λ x y. x *ℤ y) multiplied is_multiplication there choice c.args.expr.now c.in-Multiply.left c.in-Multiply.right c.in-Multiply.is c.requires.there c.requires.typed in
    answer-some there choice (λ x y. x *ℤ y) c.args.expr.now c.in-Multiply.left c.in-Multiply.right c.get-in-Multiply.result.now c.get-in-Multiply-2.result.now at c.get-in-Multiply.ensures c.get-in-Multiply-2.ensures c.in_ok-operand-in-Multiply.field-0 c.in_ok-operand-in-Multiply-2.field-0 c.in_ok-operand-in-Multiply.ensures c.in_ok-operand-in-Multiply-2.ensures
