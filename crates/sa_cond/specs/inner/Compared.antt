-- When two expressions can be compared on a choice of rows.
use Rattle.std.specs.Prelude.{◌≡◌, All, true}
use Rattle.sa_cond.specs.declared.expr.Expr.{Expr}
use Rattle.sa_cond.specs.Choice.{Choice}
use Rattle.sa_cond.specs.Cited.{expr_names, MeetsName}
use Rattle.sa_cond.specs.Interval.{CellKinds, expr_kind}
use Rattle.sa_cond.specs.Typed.{can_compare}

-- With kinds that their cells meet they are two numbers, two texts, or one is a literal NULL.
pub record CanRelate (choice : Choice) (left right : Expr) : Type 0 where
  pub kinds : CellKinds
  pub left_met : All (MeetsName kinds choice) (expr_names left)
  pub right_met : All (MeetsName kinds choice) (expr_names right)
  pub typed : can_compare (expr_kind kinds left) (expr_kind kinds right) ≡ true
