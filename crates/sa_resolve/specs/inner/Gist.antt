-- What the code keeps of the reading of an expression.
use Rattle.std.specs.Prelude.{ℕ, Bool, false, List, [], ◌∷◌, Option, Some, None, option_map}
use Rattle.std.specs.List.{flat_map}
use Rattle.sa_ast.specs.declared.expression.AggregateCall.{AggregateCall}
use Rattle.sa_ast.specs.declared.expression.AggregateCall.TheVariants.{Sum, Min, Max}
use Rattle.sa_cond.specs.Interval.{ExprKind, Interval, interval_of}
use Rattle.sa_query.specs.declared.group.Column.{Column}
use Rattle.sa_query.specs.declared.refusal.ResolveKind.TheVariants.{TypeMismatch, ExprRange, GroupRule}
use Rattle.sa_resolve.specs.Clauses.{column_of}
use Rattle.sa_resolve.specs.Fault.{Fault, fault_at, least, told}
use Rattle.sa_resolve.specs.NodeFaults.{is_condition, is_sum, is_text, is_value}
use Rattle.sa_resolve.specs.Reading.{Reading, Sort}
use Rattle.sa_resolve.specs.declared.facts.Facts.{Facts}
use Rattle.sa_resolve.specs.declared.facts.Parts.{Parts}
use Rattle.sa_resolve.specs.inner.Kind.{kind_in, sort_at}
use Rattle.sa_resolve.specs.inner.Least.{fault_of, nearer, nearest, sooner}

pub record Gist : Type 0 where
  pub place : ℕ
  pub sort : Sort
  pub sums : ℕ
  -- the first place of an aggregate
  pub call : Option ℕ
  -- the column that it is
  pub column : Option Column
  -- the fault that is told
  pub fault : Option Fault

abbrev pub gist_at : Facts → Gist
gist_at facts = record {
  place = facts.place;
  sort = sort_at facts.sort;
  sums = facts.sums;
  call = facts.call;
  column = facts.column;
  fault = fault_of facts.fault;
}

abbrev pub first : List Column → Option Column
first [] = None
first (column ∷ columns) = Some column

-- what is to be kept of a reading
abbrev pub gist_of : Reading → Gist
gist_of one = record {
  place = one.place;
  sort = one.sort;
  sums = one.sums;
  call = nearest one.calls;
  column = first (column_of one);
  fault = least one.faults;
}

abbrev pub plain_gist : (place : ℕ) → Sort → Gist
plain_gist place sort = record {
  place = place;
  sort = sort;
  sums = place;
  call = None;
  column = None;
  fault = None;
}

-- the static interval of a part
abbrev pub interval_by : Gist → Option Interval
interval_by gist = interval_of (kind_in gist.sort)

-- what is wrong with it as a value, as a condition, and as a number
abbrev pub value_fault : Gist → Option Fault
value_fault gist = least (told (is_condition gist.sort) TypeMismatch gist.place)

abbrev pub condition_fault : Gist → Option Fault
condition_fault gist = least (told (is_value gist.sort) TypeMismatch gist.place)

abbrev pub sum_fault : Gist → Option Fault
sum_fault gist = least (told (is_sum (kind_in gist.sort)) ExprRange gist.sums)

abbrev pub aggregate_fault : Gist → Option Fault
aggregate_fault gist = option_map (fault_at GroupRule) gist.call

-- What is kept of all parts of a node together.
pub record PartsGist : Type 0 where
  pub call : Option ℕ
  pub fault : Option Fault
  pub wrong : Option Fault

abbrev pub parts_at : Parts → PartsGist
parts_at parts = record {
  call = parts.call;
  fault = fault_of parts.fault;
  wrong = fault_of parts.wrong;
}

abbrev pub no_parts : PartsGist
no_parts = record { call = None; fault = None; wrong = None }

-- with one part more, which has this fault for its kind
abbrev pub with_part : PartsGist → Gist → Option Fault → PartsGist
with_part parts part wrong = record {
  call = nearer parts.call part.call;
  fault = sooner parts.fault part.fault;
  wrong = sooner parts.wrong wrong;
}

abbrev pub with_value : PartsGist → Gist → PartsGist
with_value parts part = with_part parts part (value_fault part)

abbrev pub with_condition : PartsGist → Gist → PartsGist
with_condition parts part = with_part parts part (condition_fault part)

-- a node over these parts, with what is wrong with the node itself
abbrev pub node_gist : (place : ℕ) → Sort → PartsGist → Option Fault → Gist
node_gist place sort parts own = record {
  place = place;
  sort = sort;
  sums = place;
  call = parts.call;
  column = None;
  fault = sooner parts.fault (sooner parts.wrong own);
}

-- whether a call sums texts
abbrev pub sums_texts : AggregateCall → ExprKind → Bool
sums_texts Sum kind = is_text kind
sums_texts call kind = false

-- MIN and MAX of a sum are a sum that lies farther in.
abbrev pub sums_at : AggregateCall → (place sums : ℕ) → ℕ
sums_at Min place sums = sums
sums_at Max place sums = sums
sums_at call place sums = place

-- what is kept of these parts, where each has this fault for its kind
abbrev pub parts_of_list : (Reading → List Fault) → List Reading → PartsGist
parts_of_list wrong readings = record {
  call = nearest (flat_map (λ (one : Reading). one.calls) readings);
  fault = least (flat_map (λ (one : Reading). one.faults) readings);
  wrong = least (flat_map wrong readings);
}
