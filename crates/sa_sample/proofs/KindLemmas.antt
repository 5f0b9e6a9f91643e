-- What an operation is told to be: a number if it has a static interval, else faulty.
use Rattle.std.proofs.Common.{◌≡◌, ℕ, Bool, true, false, if◌then◌else◌, Option, Some, None, option_map, refl, ap, sym, ◌∙◌}
use Rattle.std.specs.Prelude.{is_some}
use Rattle.sa_value.specs.declared.value.Value.{Value}
use Rattle.sa_cond.specs.declared.expr.Expr.{Expr}
use Rattle.sa_cond.specs.declared.expr.Expr.TheVariants as node
use Rattle.sa_cond.specs.Interval.{Interval, ExprKind, number, faulty, is_within, interval_of, reached, of_both, negated, added, subtracted, multiplied, expr_kind}
use Rattle.sa_cond.proofs.Forms.{Cases, by_forms, kind-Negate, kind-Add, kind-Subtract, kind-Multiply}
use Rattle.sa_sample.specs.declared.kind.Kind.{Kind}
use Rattle.sa_sample.specs.declared.kind.Kind.TheVariants as kinds
use Rattle.sa_sample.specs.Sample.{sample_kinds}
use Rattle.sa_sample.specs.inner.Fits.{told}

-- a number or none
abbrev numeric : ExprKind → Kind
numeric kind = if is_some (interval_of kind) then kinds.Number else kinds.Faulty

within_told : (interval : Interval) (within : Bool)
    → numeric (if within then number interval else faulty)
    ≡ told (if within then number interval else faulty)
within_told interval true = refl
within_told interval false = refl

reached_told : (interval : Option Interval) → numeric (reached interval) ≡ told (reached interval)
reached_told None = refl
reached_told (Some interval) = within_told interval (is_within interval)

at_kind : (expr : Expr) (interval : Option Interval)
    → expr_kind sample_kinds expr ≡ reached interval
    → numeric (expr_kind sample_kinds expr) ≡ told (expr_kind sample_kinds expr)
at_kind expr interval is = ap numeric is ∙ reached_told interval ∙ ap told (sym is)

-- an expression that is no leaf is told to be what it is
abbrev IsTold : Expr → Type 0
IsTold expr =
    ((value : Value) → expr ≡ node.Literal value → ⊥) → ((number : ℕ) → expr ≡ node.Slot number → ⊥)
    → ((table column : ℕ) → expr ≡ node.Column table column → ⊥)
    → numeric (expr_kind sample_kinds expr) ≡ told (expr_kind sample_kinds expr)

each : Cases IsTold
each = record {
  at_column = λ table column no_literal no_slot no_column. absurd (no_column table column refl);
  at_slot = λ place no_literal no_slot no_column. absurd (no_slot place refl);
  at_literal = λ value no_literal no_slot no_column. absurd (no_literal value refl);
  at_negate = λ x below no_literal no_slot no_column.
      at_kind (node.Negate x) (option_map negated (interval_of (expr_kind sample_kinds x)))
      (kind-Negate sample_kinds x);
  at_add = λ x y left right no_literal no_slot no_column.
      at_kind (node.Add x y)
      (of_both added (interval_of (expr_kind sample_kinds x)) (interval_of (expr_kind sample_kinds y)))
      (kind-Add sample_kinds x y);
  at_subtract = λ x y left right no_literal no_slot no_column.
      at_kind (node.Subtract x y)
      (of_both subtracted (interval_of (expr_kind sample_kinds x)) (interval_of (expr_kind sample_kinds y)))
      (kind-Subtract sample_kinds x y);
  at_multiply = λ x y left right no_literal no_slot no_column.
      at_kind (node.Multiply x y)
      (of_both multiplied (interval_of (expr_kind sample_kinds x)) (interval_of (expr_kind sample_kinds y)))
      (kind-Multiply sample_kinds x y);
}

pub told_operation : (expr : Expr) (kind : Kind)
    → ((value : Value) → expr ≡ node.Literal value → ⊥) → ((number : ℕ) → expr ≡ node.Slot number → ⊥)
    → ((table column : ℕ) → expr ≡ node.Column table column → ⊥)
    → kind ≡ numeric (expr_kind sample_kinds expr) → kind ≡ told (expr_kind sample_kinds expr)
told_operation expr kind no_literal no_slot no_column told_is =
    told_is ∙ by_forms IsTold each expr no_literal no_slot no_column
