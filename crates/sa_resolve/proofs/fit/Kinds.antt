-- Kinds of values, and what arithmetic and comparisons make of them.
use Rattle.std.proofs.Common.{◌≡◌, ℤ, Bool, true, false, ◌&&◌, ◌||◌, Option, Some, None, is_some, option_map, if◌then◌else◌, refl, sym, ap, subst}
use Rattle.std.specs.Prelude.{⊤}
use Rattle.sa_value.specs.declared.value.Value.{Value}
use Rattle.sa_value.specs.declared.value.Value.TheVariants.{Null, Int, Big, Text}
use Rattle.sa_cond.specs.declared.cells.CellKind.{CellKind}
use Rattle.sa_cond.specs.declared.cells.CellKind.TheVariants as cells
use Rattle.sa_cond.specs.declared.expr.Expr.{Expr, Expr-F, out-Expr, map-Expr, fold_out-Expr}
use Rattle.sa_cond.specs.Interval.{CellKinds, ExprKind, number, sum, text, null, faulty, Interval, is_within, number_within, interval_of, reached, of_both, negated, added, subtracted, multiplied, kind_of_cell, kind_of_literal, node_kind, expr_kind}
use Rattle.sa_cond.specs.Typed.{is_proper, can_compare}
use Rattle.sa_table.specs.declared.def.ColumnKind.{ColumnKind}
use Rattle.sa_table.specs.declared.def.ColumnKind.TheVariants as kinds
use Rattle.sa_query.specs.Kinds.{cells_of, cells_in}
use Rattle.sa_resolve.specs.Node.{extreme, number_value}
use Rattle.sa_resolve.specs.NodeFaults.{is_text, is_number, is_sum, is_faulty, leaves}

-- A number is one that 64 bits hold.
abbrev pub IsHeld : ExprKind → Type 0
IsHeld (number interval) = is_within interval ≡ true
IsHeld kind = ⊤

-- What arithmetic gives that stays in the range.
pub record IsReached (kind : ExprKind) : Type 0 where
  pub proper : is_proper kind ≡ true
  pub unsummed : is_sum kind ≡ false

reached_by : (within : Bool) (interval : Interval)
    → is_faulty (if within then number interval else faulty) ≡ false
    → IsReached (if within then number interval else faulty)
reached_by true interval stays = record { proper = refl; unsummed = refl }
reached_by false interval stays = cc

reach_is : (reach : Option Interval) → is_some reach ≡ true → leaves reach ≡ false
    → IsReached (reached reach)
reach_is None some stays = cc
reach_is (Some interval) some stays = reached_by (is_within interval) interval stays

interval_is : (kind : ExprKind) → is_proper kind ≡ true → is_text kind ≡ false → is_sum kind ≡ false
    → is_some (interval_of kind) ≡ true
interval_is (number interval) proper no_text no_sum = refl
interval_is sum proper no_text no_sum = cc
interval_is text proper no_text no_sum = cc
interval_is null proper no_text no_sum = refl
interval_is faulty proper no_text no_sum = cc

mapped_is : (f : Interval → Interval) (interval : Option Interval) → is_some interval ≡ true
    → is_some (option_map f interval) ≡ true
mapped_is f None some = cc
mapped_is f (Some interval) some = refl

both_are : (f : Interval → Interval → Interval) (one other : Option Interval) → is_some one ≡ true
    → is_some other ≡ true → is_some (of_both f one other) ≡ true
both_are f None other some some' = cc
both_are f (Some one) None some some' = cc
both_are f (Some one) (Some other) some some' = refl

-- A kind with which arithmetic can go on.
pub record IsNumeric (kind : ExprKind) : Type 0 where
  pub proper : is_proper kind ≡ true
  pub no_text : is_text kind ≡ false
  pub no_sum : is_sum kind ≡ false

pub interval-numeric : (kind : ExprKind) → IsNumeric kind → is_some (interval_of kind) ≡ true
interval-numeric kind numeric = interval_is kind numeric.proper numeric.no_text numeric.no_sum

pub reached-one : (f : Interval → Interval) (kind : ExprKind) → IsNumeric kind
    → leaves (option_map f (interval_of kind)) ≡ false
    → IsReached (reached (option_map f (interval_of kind)))
reached-one f kind numeric stays =
    reach_is (option_map f (interval_of kind))
    (mapped_is f (interval_of kind) (interval-numeric kind numeric)) stays

pub reached-two : (f : Interval → Interval → Interval) (one other : ExprKind) → IsNumeric one
    → IsNumeric other
    → leaves (of_both f (interval_of one) (interval_of other)) ≡ false
    → IsReached (reached (of_both f (interval_of one) (interval_of other)))
reached-two f one other numeric numeric' stays =
    reach_is (of_both f (interval_of one) (interval_of other))
    (both_are f (interval_of one) (interval_of other) (interval-numeric one numeric)
    (interval-numeric other numeric')) stays

-- whether a number is compared with a text
abbrev pub clash : ExprKind → ExprKind → Bool
clash one other = (is_text one && is_number other) || (is_number one && is_text other)

pub compared : (one other : ExprKind) → is_proper one ≡ true → is_proper other ≡ true
    → clash one other ≡ false → can_compare one other ≡ true
compared faulty other proper proper' agree = cc
compared (number interval) faulty proper proper' agree = cc
compared sum faulty proper proper' agree = cc
compared text faulty proper proper' agree = cc
compared null faulty proper proper' agree = cc
compared text (number interval) proper proper' agree = cc
compared text sum proper proper' agree = cc
compared (number interval) text proper proper' agree = cc
compared sum text proper proper' agree = cc
compared one other proper proper' agree = refl

faultless_is : (kind : ExprKind) → is_faulty kind ≡ false → is_proper kind ≡ true
faultless_is faulty faultless = cc
faultless_is kind faultless = refl

pub literal-proper : (value : Value) → is_faulty (kind_of_literal value) ≡ false
    → is_proper (kind_of_literal value) ≡ true
literal-proper value faultless = faultless_is (kind_of_literal value) faultless

within_unsummed : (within : Bool) (interval : Interval)
    → is_sum (if within then number interval else faulty) ≡ false
within_unsummed true interval = refl
within_unsummed false interval = refl

pub literal-unsummed : (literal : ℤ) → is_sum (kind_of_literal (Int literal)) ≡ false
literal-unsummed literal =
    within_unsummed (is_within (record { least = literal; greatest = literal }))
    (record { least = literal; greatest = literal })

number_by : (literal : ℤ) (small : Bool)
    → kind_of_literal (if small then Int literal else Big literal) ≡ kind_of_literal (Int literal)
number_by literal true = refl
number_by literal false = refl

-- a number's kind, however it is kept
pub number-kind : (literal : ℤ) → kind_of_literal (number_value literal) ≡ kind_of_literal
    (Int literal)
number-kind literal = number_by literal _

pub column-proper : (kind : ColumnKind) → is_proper (kind_of_cell (cells_of kind)) ≡ true
column-proper kinds.Int = refl
column-proper kinds.BigInt = refl
column-proper (kinds.VarChar characters) = refl

pub column-unsummed : (kind : ColumnKind) → is_sum (kind_of_cell (cells_of kind)) ≡ false
column-unsummed kinds.Int = refl
column-unsummed kinds.BigInt = refl
column-unsummed (kinds.VarChar characters) = refl

held_by : (within : Bool) (interval : Interval) → is_within interval ≡ within
    → IsHeld (if within then number interval else faulty)
held_by true interval is = is
held_by false interval is = tt

within-held : (interval : Interval) → IsHeld (number_within interval)
within-held interval = held_by (is_within interval) interval refl

cell-held : (cell : CellKind) → IsHeld (kind_of_cell cell)
cell-held (cells.Number least greatest) =
    within-held (record { least = least; greatest = greatest })
cell-held cells.Sum = tt
cell-held cells.Text = tt

literal-held : (value : Value) → IsHeld (kind_of_literal value)
literal-held Null = tt
literal-held (Int literal) = within-held (record { least = literal; greatest = literal })
literal-held (Big literal) = within-held (record { least = literal; greatest = literal })
literal-held (Text literal) = tt

reached-held : (reach : Option Interval) → IsHeld (reached reach)
reached-held None = tt
reached-held (Some interval) = within-held interval

node-held : (kinds : CellKinds) (node : Expr-F ExprKind) → IsHeld (node_kind kinds node)
node-held kinds (Expr-F.Column table column) = cell-held (kinds.column table column)
node-held kinds (Expr-F.Slot slot) = cell-held (kinds.slot slot)
node-held kinds (Expr-F.Literal value) = literal-held value
node-held kinds (Expr-F.Negate x) = reached-held (option_map negated (interval_of x))
node-held kinds (Expr-F.Add x y) = reached-held (of_both added (interval_of x) (interval_of y))
node-held kinds (Expr-F.Subtract x y) =
    reached-held (of_both subtracted (interval_of x) (interval_of y))
node-held kinds (Expr-F.Multiply x y) =
    reached-held (of_both multiplied (interval_of x) (interval_of y))

-- an expression's numbers are those that 64 bits hold
pub kind-held : (kinds : CellKinds) (expr : Expr) → IsHeld (expr_kind kinds expr)
kind-held kinds expr =
    subst IsHeld (sym (fold_out-Expr ExprKind (node_kind kinds) expr))
    (node-held kinds (map-Expr Expr ExprKind (expr_kind kinds) (out-Expr expr)))

-- what MIN or MAX gives is what its slot can be
pub extreme-kind : (kind : ExprKind) → IsHeld kind → is_proper kind ≡ true
    → kind_of_cell (cells_in kind) ≡ extreme (Some kind)
extreme-kind (number interval) held proper =
    ap (λ (within : Bool). if within then number interval else faulty) held
extreme-kind sum held proper = refl
extreme-kind text held proper = refl
extreme-kind null held proper = refl
extreme-kind faulty held proper = cc

pub extreme-proper : (kind : ExprKind) → is_proper kind ≡ true → is_proper (extreme (Some kind))
    ≡ true
extreme-proper (number interval) proper = refl
extreme-proper sum proper = refl
extreme-proper text proper = refl
extreme-proper null proper = refl
extreme-proper faulty proper = cc
