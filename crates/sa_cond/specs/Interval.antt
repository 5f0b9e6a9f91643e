-- What an expression can be: a number of its static interval, a sum, a text, or nothing at all.
use Rattle.std.specs.Prelude.{ℕ, ℤ, pos, negsuc, ◌+ℤ◌, ◌-ℤ◌, ◌*ℤ◌, neg_ℤ, Bool, ◌&&◌, int_le, Option, Some, None, option_map, if◌then◌else◌}
use Rattle.std.specs.Int.{int_min, int_max}
use Rattle.sa_value.specs.declared.value.Value.{Value}
use Rattle.sa_value.specs.declared.value.Value.TheVariants.{Null, Int, Big, Text}
use Rattle.sa_cond.specs.declared.cells.CellKind.{CellKind}
use Rattle.sa_cond.specs.declared.cells.CellKind.TheVariants as cells
use Rattle.sa_cond.specs.declared.expr.Expr.{Expr, Expr-F, fold-Expr}

-- the kinds of the columns and slots of a tree
pub record CellKinds : Type 0 where
  pub column : (table column : ℕ) → CellKind
  pub slot : (number : ℕ) → CellKind

-- The numbers from `least` to `greatest`, both of them.
pub record Interval : Type 0 where
  pub least : ℤ
  pub greatest : ℤ

-- An expression gives a number of an interval, a sum that may leave it, a text, or NULL alone. It
-- is none of these where its arithmetic is over a text or a sum, or leaves the range of BIGINT.
pub data ExprKind : Type 0 where
  number : (interval : Interval) → ExprKind
  sum : ExprKind
  text : ExprKind
  null : ExprKind
  faulty : ExprKind

-- -2^63 and 2^63 - 1
abbrev pub least_bigint : ℤ
least_bigint = negsuc 9223372036854775807

abbrev pub greatest_bigint : ℤ
greatest_bigint = pos 9223372036854775807

-- whether a number is in the range of BIGINT
abbrev pub is_bigint : ℤ → Bool
is_bigint x = int_le least_bigint x && int_le x greatest_bigint

-- whether an interval is, with both its ends
abbrev pub is_within : Interval → Bool
is_within interval = is_bigint interval.least && is_bigint interval.greatest

-- an interval that arithmetic reaches, if it stays within the range
abbrev pub number_within : Interval → ExprKind
number_within interval = if is_within interval then number interval else faulty

-- the static interval of a kind; NULL counts as 0
abbrev pub interval_of : ExprKind → Option Interval
interval_of (number interval) = Some interval
interval_of sum = None
interval_of text = None
interval_of null = Some (record { least = pos 0; greatest = pos 0 })
interval_of faulty = None

-- the kind that an operation on intervals reaches
abbrev pub reached : Option Interval → ExprKind
reached None = faulty
reached (Some interval) = number_within interval

abbrev pub of_both : (Interval → Interval → Interval) → Option Interval → Option Interval
    → Option Interval
of_both operation None right = None
of_both operation (Some left) None = None
of_both operation (Some left) (Some right) = Some (operation left right)

-- interval arithmetic
abbrev pub negated : Interval → Interval
negated x = record { least = neg_ℤ x.greatest; greatest = neg_ℤ x.least }

abbrev pub added : Interval → Interval → Interval
added x y = record { least = x.least +ℤ y.least; greatest = x.greatest +ℤ y.greatest }

abbrev pub subtracted : Interval → Interval → Interval
subtracted x y = record { least = x.least -ℤ y.greatest; greatest = x.greatest -ℤ y.least }

-- A product's ends are among the products of the ends.
abbrev pub multiplied : Interval → Interval → Interval
multiplied x y =
    let low = x.least *ℤ y.least in let left = x.least *ℤ y.greatest in
    let right = x.greatest *ℤ y.least in let high = x.greatest *ℤ y.greatest in
    record {
      least = int_min (int_min low left) (int_min right high);
      greatest = int_max (int_max low left) (int_max right high);
    }

-- the kind of a cell
abbrev pub kind_of_cell : CellKind → ExprKind
kind_of_cell (cells.Number least greatest) =
    number_within (record { least = least; greatest = greatest })
kind_of_cell cells.Sum = sum
kind_of_cell cells.Text = text

-- the kind of a literal
abbrev pub kind_of_literal : Value → ExprKind
kind_of_literal Null = null
kind_of_literal (Int literal) = number_within (record { least = literal; greatest = literal })
kind_of_literal (Big literal) = number_within (record { least = literal; greatest = literal })
kind_of_literal (Text literal) = text

-- One node, with the kind of each expression below in its place.
abbrev pub node_kind : CellKinds → Expr-F ExprKind → ExprKind
node_kind kinds (Expr-F.Column table column) = kind_of_cell (kinds.column table column)
node_kind kinds (Expr-F.Slot slot) = kind_of_cell (kinds.slot slot)
node_kind kinds (Expr-F.Literal value) = kind_of_literal value
node_kind kinds (Expr-F.Negate x) = reached (option_map negated (interval_of x))
node_kind kinds (Expr-F.Add x y) = reached (of_both added (interval_of x) (interval_of y))
node_kind kinds (Expr-F.Subtract x y) = reached (of_both subtracted (interval_of x) (interval_of y))
node_kind kinds (Expr-F.Multiply x y) = reached (of_both multiplied (interval_of x) (interval_of y))

-- the whole expression
abbrev pub expr_kind : CellKinds → Expr → ExprKind
expr_kind kinds = fold-Expr ExprKind (node_kind kinds)

-- the static interval of an expression, where it has one
abbrev pub static_interval : CellKinds → Expr → Option Interval
static_interval kinds expr = interval_of (expr_kind kinds expr)
