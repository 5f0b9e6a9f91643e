use Rattle.std.proofs.Common.{◌+ℤ◌, ◌-ℤ◌, ◌*ℤ◌, All, sym, subst, ap, ◌∙◌, rules, option_map}
use Rattle.sa_cond.specs.declared.expr.Expr.{the_lemmas}
use Rattle.sa_cond.specs.declared.expr.Expr.TheVariants as node
use Rattle.sa_cond.specs.Cited.{Name, IsThere, expr_names}
use Rattle.sa_cond.specs.Interval.{CellKinds, added, subtracted, multiplied}
use Rattle.sa_cond.specs.inner.Ends.{interval_at}
use Rattle.sa_cond.proofs.IntervalLemmas.{is_addition, is_subtraction, is_multiplication}
use Rattle.sa_cond.proofs.Arithmetic.{column_name, slot_name}
use Rattle.sa_cond.proofs.StaticIntervals.{left_names, right_names, negated_names, static-none_left, static-none, static-some, negated-none, negated-some}
use Rattle.sa_cond.proofs.static_interval.+ends.Goals as goal

pub column-requires : goal.column-requires
column-requires g t c =
    let there : Name → Type 0 = IsThere (g.K.Kinds.has_column c.args.kinds.now) (g.K.Kinds.has_slot c.args.kinds.now) in
    column_name there c.in-Column.table c.in-Column.column c.args.expr.now c.in-Column.is c.requires.there

pub slot-requires : goal.slot-requires
slot-requires g t c =
    let there : Name → Type 0 = IsThere (g.K.Kinds.has_column c.args.kinds.now) (g.K.Kinds.has_slot c.args.kinds.now) in
    slot_name there c.in-Slot.number c.args.expr.now c.in-Slot.is c.requires.there

pub ends-requires : goal.ends-requires
ends-requires g t c κs within =
    let there : Name → Type 0 = IsThere (g.K.Kinds.has_column c.args.kinds.now) (g.K.Kinds.has_slot c.args.kinds.now) in
    (search (rules, the_lemmas), (search rules, subst (λ expr. All there (expr_names expr)) (sym c.get.ensures) (negated_names there c.args.expr.now c.in-Negate.x c.in-Negate.is c.requires.there)))

pub returns-in_err-ends-in-Negate : goal.returns-in_err-ends-in-Negate
returns-in_err-ends-in-Negate g t c =
    let kinds : CellKinds = record { column = g.K.Kinds.column_kind c.args.kinds.now; slot = g.K.Kinds.slot_kind c.args.kinds.now } in
    ap (option_map interval_at) c.from_residual.ensures ∙ negated-none kinds c.args.expr.now c.in-Negate.x c.in-Negate.is c.get.result.now c.get.ensures c.in_err-ends-in-Negate.ensures

pub returns-in_ok-ends-in-Negate : goal.returns-in_ok-ends-in-Negate
returns-in_ok-ends-in-Negate g t c =
    let kinds : CellKinds = record { column = g.K.Kinds.column_kind c.args.kinds.now; slot = g.K.Kinds.slot_kind c.args.kinds.now } in
    c.negated.ensures ∙ negated-some kinds c.args.expr.now c.in-Negate.x c.in-Negate.is c.get.result.now c.get.ensures (interval_at c.in_ok-ends-in-Negate.field-0) c.in_ok-ends-in-Negate.ensures

pub ends-requires-in-Add : goal.ends-requires-in-Add
ends-requires-in-Add g t c κs within =
    let there : Name → Type 0 = IsThere (g.K.Kinds.has_column c.args.kinds.now) (g.K.Kinds.has_slot c.args.kinds.now) in
    (search (rules, the_lemmas), (search rules, subst (λ expr. All there (expr_names expr)) (sym c.get-in-Add.ensures) (left_names there node.Add (λ x y. x +ℤ y) added is_addition c.args.expr.now c.in-Add.left c.in-Add.right c.in-Add.is c.requires.there)))

pub ends-requires-in-Add-2 : goal.ends-requires-in-Add-2
ends-requires-in-Add-2 g t c κs within =
    let there : Name → Type 0 = IsThere (g.K.Kinds.has_column c.args.kinds.now) (g.K.Kinds.has_slot c.args.kinds.now) in
    (search (rules, the_lemmas), (search rules, subst (λ expr. All there (expr_names expr)) (sym c.get-in-Add-2.ensures) (right_names there node.Add (λ x y. x +ℤ y) added is_addition c.args.expr.now c.in-Add.left c.in-Add.right c.in-Add.is c.requires.there)))

pub returns-in_err-ends-in-Add : goal.returns-in_err-ends-in-Add
returns-in_err-ends-in-Add g t c =
    let kinds : CellKinds = record { column = g.K.Kinds.column_kind c.args.kinds.now; slot = g.K.Kinds.slot_kind c.args.kinds.now } in
    ap (option_map interval_at) c.from_residual-in_err-ends-in-Add.ensures ∙ static-none_left kinds node.Add (λ x y. x +ℤ y) added is_addition c.args.expr.now c.in-Add.left c.in-Add.right c.in-Add.is c.get-in-Add.result.now c.get-in-Add.ensures c.in_err-ends-in-Add.ensures

pub returns-in_err-ends-in-Add-2 : goal.returns-in_err-ends-in-Add-2
returns-in_err-ends-in-Add-2 g t c =
    let kinds : CellKinds = record { column = g.K.Kinds.column_kind c.args.kinds.now; slot = g.K.Kinds.slot_kind c.args.kinds.now } in
    ap (option_map interval_at) c.from_residual-in_err-ends-in-Add-2.ensures ∙ static-none kinds node.Add (λ x y. x +ℤ y) added is_addition c.args.expr.now c.in-Add.left c.in-Add.right c.in-Add.is c.get-in-Add.result.now c.get-in-Add.ensures c.get-in-Add-2.result.now c.get-in-Add-2.ensures c.in_err-ends-in-Add-2.ensures

pub returns-in_ok-ends-in-Add-2 : goal.returns-in_ok-ends-in-Add-2
returns-in_ok-ends-in-Add-2 g t c =
    let kinds : CellKinds = record { column = g.K.Kinds.column_kind c.args.kinds.now; slot = g.K.Kinds.slot_kind c.args.kinds.now } in
    c.added.ensures ∙ static-some kinds node.Add (λ x y. x +ℤ y) added is_addition c.args.expr.now c.in-Add.left c.in-Add.right c.in-Add.is c.get-in-Add.result.now c.get-in-Add.ensures c.get-in-Add-2.result.now c.get-in-Add-2.ensures (interval_at c.in_ok-ends-in-Add.field-0) (interval_at c.in_ok-ends-in-Add-2.field-0) c.in_ok-ends-in-Add.ensures c.in_ok-ends-in-Add-2.ensures

pub ends-requires-in-Subtract : goal.ends-requires-in-Subtract
ends-requires-in-Subtract g t c κs within =
    let there : Name → Type 0 = IsThere (g.K.Kinds.has_column c.args.kinds.now) (g.K.Kinds.has_slot c.args.kinds.now) in
    (search (rules, the_lemmas), (search rules, subst (λ expr. All there (expr_names expr)) (sym c.get-in-Subtract.ensures) (left_names there node.Subtract (λ x y. x -ℤ y) subtracted is_subtraction c.args.expr.now c.in-Subtract.left c.in-Subtract.right c.in-Subtract.is c.requires.there)))

pub ends-requires-in-Subtract-2 : goal.ends-requires-in-Subtract-2
ends-requires-in-Subtract-2 g t c κs within =
    let there : Name → Type 0 = IsThere (g.K.Kinds.has_column c.args.kinds.now) (g.K.Kinds.has_slot c.args.kinds.now) in
    (search (rules, the_lemmas), (search rules, subst (λ expr. All there (expr_names expr)) (sym c.get-in-Subtract-2.ensures) (right_names there node.Subtract (λ x y. x -ℤ y) subtracted is_subtraction c.args.expr.now c.in-Subtract.left c.in-Subtract.right c.in-Subtract.is c.requires.there)))

pub returns-in_err-ends-in-Subtract : goal.returns-in_err-ends-in-Subtract
returns-in_err-ends-in-Subtract g t c =
    let kinds : CellKinds = record { column = g.K.Kinds.column_kind c.args.kinds.now; slot = g.K.Kinds.slot_kind c.args.kinds.now } in
    ap (option_map interval_at) c.from_residual-in_err-ends-in-Subtract.ensures ∙ static-none_left kinds node.Subtract (λ x y. x -ℤ y) subtracted is_subtraction c.args.expr.now c.in-Subtract.left c.in-Subtract.right c.in-Subtract.is c.get-in-Subtract.result.now c.get-in-Subtract.ensures c.in_err-ends-in-Subtract.ensures

pub returns-in_err-ends-in-Subtract-2 : goal.returns-in_err-ends-in-Subtract-2
returns-in_err-ends-in-Subtract-2 g t c =
    let kinds : CellKinds = record { column = g.K.Kinds.column_kind c.args.kinds.now; slot = g.K.Kinds.slot_kind c.args.kinds.now } in
    ap (option_map interval_at) c.from_residual-in_err-ends-in-Subtract-2.ensures ∙ static-none kinds node.Subtract (λ x y. x -ℤ y) subtracted is_subtraction c.args.expr.now c.in-Subtract.left c.in-Subtract.right c.in-Subtract.is c.get-in-Subtract.result.now c.get-in-Subtract.ensures c.get-in-Subtract-2.result.now c.get-in-Subtract-2.ensures c.in_err-ends-in-Subtract-2.ensures

pub returns-in_ok-ends-in-Subtract-2 : goal.returns-in_ok-ends-in-Subtract-2
returns-in_ok-ends-in-Subtract-2 g t c =
    let kinds : CellKinds = record { column = g.K.Kinds.column_kind c.args.kinds.now; slot = g.K.Kinds.slot_kind c.args.kinds.now } in
    c.subtracted.ensures ∙ static-some kinds node.Subtract (λ x y. x -ℤ y) subtracted is_subtraction c.args.expr.now c.in-Subtract.left c.in-Subtract.right c.in-Subtract.is c.get-in-Subtract.result.now c.get-in-Subtract.ensures c.get-in-Subtract-2.result.now c.get-in-Subtract-2.ensures (interval_at c.in_ok-ends-in-Subtract.field-0) (interval_at c.in_ok-ends-in-Subtract-2.field-0) c.in_ok-ends-in-Subtract.ensures c.in_ok-ends-in-Subtract-2.ensures

pub ends-requires-in-Multiply : goal.ends-requires-in-Multiply
ends-requires-in-Multiply g t c κs within =
    let there : Name → Type 0 = IsThere (g.K.Kinds.has_column c.args.kinds.now) (g.K.Kinds.has_slot c.args.kinds.now) in
    (search (rules, the_lemmas), (search rules, subst (λ expr. All there (expr_names expr)) (sym c.get-in-Multiply.ensures) (left_names there node.Multiply (λ x y. x *ℤ y) multiplied is_multiplication c.args.expr.now c.in-Multiply.left c.in-Multiply.right c.in-Multiply.is c.requires.there)))

pub ends-requires-in-Multiply-2 : goal.ends-requires-in-Multiply-2
ends-requires-in-Multiply-2 g t c κs within =
    let there : Name → Type 0 = IsThere (g.K.Kinds.has_column c.args.kinds.now) (g.K.Kinds.has_slot c.args.kinds.now) in
    (search (rules, the_lemmas), (search rules, subst (λ expr. All there (expr_names expr)) (sym c.get-in-Multiply-2.ensures) (right_names there node.Multiply (λ x y. x *ℤ y) multiplied is_multiplication c.args.expr.now c.in-Multiply.left c.in-Multiply.right c.in-Multiply.is c.requires.there)))

pub returns-in_err-ends-in-Multiply : goal.returns-in_err-ends-in-Multiply
returns-in_err-ends-in-Multiply g t c =
    let kinds : CellKinds = record { column = g.K.Kinds.column_kind c.args.kinds.now; slot = g.K.Kinds.slot_kind c.args.kinds.now } in
    ap (option_map interval_at) c.from_residual-in_err-ends-in-Multiply.ensures ∙ static-none_left kinds node.Multiply (λ x y. x *ℤ y) multiplied is_multiplication c.args.expr.now c.in-Multiply.left c.in-Multiply.right c.in-Multiply.is c.get-in-Multiply.result.now c.get-in-Multiply.ensures c.in_err-ends-in-Multiply.ensures

pub returns-in_err-ends-in-Multiply-2 : goal.returns-in_err-ends-in-Multiply-2
returns-in_err-ends-in-Multiply-2 g t c =
    let kinds : CellKinds = record { column = g.K.Kinds.column_kind c.args.kinds.now; slot = g.K.Kinds.slot_kind c.args.kinds.now } in
    ap (option_map interval_at) c.from_residual-in_err-ends-in-Multiply-2.ensures ∙ static-none kinds node.Multiply (λ x y. x *ℤ y) multiplied is_multiplication c.args.expr.now c.in-Multiply.left c.in-Multiply.right c.in-Multiply.is c.get-in-Multiply.result.now c.get-in-Multiply.ensures c.get-in-Multiply-2.result.now c.get-in-Multiply-2.ensures c.in_err-ends-in-Multiply-2.ensures

pub returns-in_ok-ends-in-Multiply-2 : goal.returns-in_ok-ends-in-Multiply-2
returns-in_ok-ends-in-Multiply-2 g t c =
    let kinds : CellKinds = record { column = g.K.Kinds.column_kind c.args.kinds.now; slot = g.K.Kinds.slot_kind c.args.kinds.now } in
    c.multiplied.ensures ∙ static-some kinds node.Multiply (λ x y. x *ℤ y) multiplied is_multiplication c.args.expr.now c.in-Multiply.left c.in-Multiply.right c.in-Multiply.is c.get-in-Multiply.result.now c.get-in-Multiply.ensures c.get-in-Multiply-2.result.now c.get-in-Multiply-2.ensures (interval_at c.in_ok-ends-in-Multiply.field-0) (interval_at c.in_ok-ends-in-Multiply-2.field-0) c.in_ok-ends-in-Multiply.ensures c.in_ok-ends-in-Multiply-2.ensures
