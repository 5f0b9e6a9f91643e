-- What is read of an expression of a SELECT: what it is and what it stands for, and what is wrong with it.
use Rattle.std.specs.Prelude.{ℕ, List, [], ◌∷◌}
use Rattle.sa_value.specs.declared.truth.Truth.TheVariants.{Unknown}
use Rattle.sa_value.specs.declared.value.Value.TheVariants.{Null}
use Rattle.sa_cond.specs.declared.cond.Cond.{Cond}
use Rattle.sa_cond.specs.declared.cond.Cond.TheVariants.{Known}
use Rattle.sa_cond.specs.declared.expr.Expr.{Expr}
use Rattle.sa_cond.specs.declared.expr.Expr.TheVariants.{Literal}
use Rattle.sa_cond.specs.Interval.{ExprKind, faulty}
use Rattle.sa_query.specs.declared.group.Aggregate.{Aggregate}
use Rattle.sa_query.specs.declared.group.Column.{Column}
use Rattle.sa_query.specs.declared.refusal.ResolveKind.{ResolveKind}
use Rattle.sa_resolve.specs.Fault.{Fault, fault_at}

-- An expression is a condition, or a value of a kind, which is `faulty` where a part of it is
-- wrong, so that nothing is said of it twice.
pub data Sort : Type 0 where
  condition : Sort
  value : ExprKind → Sort

pub record Reading : Type 0 where
  -- where a fault of it is shown
  pub place : ℕ
  pub sort : Sort
  -- what it stands for over rows, if it is a value
  pub row : Expr
  -- what stands for it in the query, if it is a value and if it is a condition
  pub expr : Expr
  pub cond : Cond
  -- the place of the innermost part that is a sum, where it is one
  pub sums : ℕ
  -- the aggregates that are written in it, in order
  pub aggregates : List Aggregate
  -- their places, and those of names that stand for one
  pub calls : List ℕ
  -- the columns that are written in it outside aggregates, with their places
  pub loose : List (ℕ × Column)
  -- the places of its numbers, texts and NULLs, in order
  pub literals : List ℕ
  pub faults : List Fault

-- What stands for what isn't there: NULL, which no definition looks at.
abbrev pub no_expr : Expr
no_expr = Literal Null

abbrev pub no_cond : Cond
no_cond = Known Unknown

-- a name that has this fault
abbrev pub faulty_name : ResolveKind → (place : ℕ) → Reading
faulty_name kind place = record {
  place = place;
  sort = value faulty;
  row = no_expr;
  expr = no_expr;
  cond = no_cond;
  sums = place;
  aggregates = [];
  calls = [];
  loose = [];
  literals = [];
  faults = fault_at kind place ∷ [];
}

-- a place for any call of these
abbrev pub one_call : (place : ℕ) → List ℕ → List ℕ
one_call place [] = []
one_call place (call ∷ calls) = place ∷ []

-- What a name stands for that is an alias or a position: the select item, at the name's place. What
-- is wrong with the item in itself is told there.
abbrev pub named : (place : ℕ) → Reading → Reading
named place item = record item {
  place = place;
  sums = place;
  aggregates = [];
  calls = one_call place item.calls;
  loose = [];
  literals = [];
  faults = [];
}
