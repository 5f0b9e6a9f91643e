-- Each cell of the sample meets its kind, so what is well-typed can be evaluated on it.
use Rattle.std.proofs.Common.{◌≡◌, ◌==◌, ◌||◌, Bool, true, false, if◌then◌else◌, List, get_or, All, pos, codes, arith}
use Rattle.std.proofs.lemmas.Int.{ints}
use Rattle.sa_value.specs.declared.value.Value.TheVariants.{Null, Int, Text}
use Rattle.sa_cond.specs.declared.cells.CellKind.TheVariants as cells
use Rattle.sa_cond.specs.declared.cond.Cond.{Cond}
use Rattle.sa_cond.specs.declared.expr.Expr.{Expr}
use Rattle.sa_cond.specs.Cited.{Name, column, slot, MeetsName, CanEvaluate, CanTest, expr_names, cond_names}
use Rattle.sa_cond.specs.Interval.{expr_kind}
use Rattle.sa_cond.specs.Typed.{MeetsKind, is_proper, is_well_typed}
use Rattle.sa_sample.specs.Sample.{sample, sample_kinds, int_kind, bigint_kind}

meets_at : (first zero one : Bool) →
    MeetsKind
    (if first then (if zero || one then int_kind else bigint_kind)
    else (if zero then int_kind else cells.Text))
    (if first then (if zero then Int (pos 2) else (if one then Int (pos 3) else Int (pos 7)))
    else (if zero then Null else (if one then Text (codes "pear") else Null)))
meets_at true true one = (omega (arith, ints), omega (arith, ints))
meets_at true false true = (omega (arith, ints), omega (arith, ints))
meets_at true false false = (omega (arith, ints), omega (arith, ints))
meets_at false true one = tt
meets_at false false true = tt
meets_at false false false = tt

meets : (name : Name) → MeetsName sample_kinds sample name
meets (column table number) = meets_at (table == 0) (number == 0) (number == 1)
meets (slot number) = tt

pub all_met : (names : List Name) → All (MeetsName sample_kinds sample) names
all_met names = λ k d lt. meets (get_or names k d)

pub can_test : (cond : Cond) → is_well_typed sample_kinds cond ≡ true → CanTest sample cond
can_test cond typed = record { kinds = sample_kinds; met = all_met (cond_names cond); typed = typed }

pub can_evaluate : (expr : Expr) → is_proper (expr_kind sample_kinds expr) ≡ true
    → CanEvaluate sample expr
can_evaluate expr typed =
    record { kinds = sample_kinds; met = all_met (expr_names expr); typed = typed }
