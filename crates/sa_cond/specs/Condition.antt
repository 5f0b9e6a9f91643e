-- The truth of a condition on a choice of rows.
-- Source: MariaDB Knowledge Base, "Comparison Operators", "Logical Operators", "IS NULL", "BETWEEN AND" and "IN".
use Rattle.std.specs.Prelude.{Bool, true, false, not, List, map, fold}
use Rattle.sa_value.specs.declared.truth.CompareOp.TheVariants.{Eq, Ge, Le}
use Rattle.sa_value.specs.declared.truth.Truth.{Truth}
use Rattle.sa_value.specs.declared.truth.Truth.TheVariants.{False, True}
use Rattle.sa_value.specs.declared.value.Value.{Value}
use Rattle.sa_value.specs.declared.value.Value.TheVariants.{Null, Int, Big, Text}
use Rattle.sa_value.specs.Compare.{known, truth_of}
use Rattle.sa_value.specs.Logic.{conjunction, disjunction, negation}
use Rattle.sa_cond.specs.declared.cond.Cond.{Cond, Cond-F, fold-Cond}
use Rattle.sa_cond.specs.Choice.{Choice}
use Rattle.sa_cond.specs.Expression.{expr_value}

-- whether a value is NULL
abbrev pub is_null : Value → Bool
is_null Null = true
is_null (Int number) = false
is_null (Big number) = false
is_null (Text text) = false

-- the AND of truths, TRUE where there is none
abbrev pub all_of : List Truth → Truth
all_of = fold conjunction True

-- the OR of truths, FALSE where there is none
abbrev pub any_of : List Truth → Truth
any_of = fold disjunction False

-- `value >= low AND value <= high`
abbrev pub between : Value → Value → Value → Truth
between value low high = conjunction (truth_of Ge value low) (truth_of Le value high)

-- `value = x OR value = y OR ..` for the values of a list
abbrev pub among : Value → List Value → Truth
among value list = any_of (map (truth_of Eq value) list)

-- One node, with the truth of each condition below in its place.
abbrev pub node_truth : Choice → Cond-F Truth → Truth
node_truth choice (Cond-F.Known truth) = truth
node_truth choice (Cond-F.Compare op left right) =
    truth_of op (expr_value choice left) (expr_value choice right)
node_truth choice (Cond-F.IsNull x) = known (is_null (expr_value choice x))
node_truth choice (Cond-F.NotNull x) = known (not (is_null (expr_value choice x)))
node_truth choice (Cond-F.Between value low high) =
    between (expr_value choice value) (expr_value choice low) (expr_value choice high)
node_truth choice (Cond-F.Among value list) =
    among (expr_value choice value) (map (expr_value choice) list)
node_truth choice (Cond-F.And members) = all_of members
node_truth choice (Cond-F.Or members) = any_of members
node_truth choice (Cond-F.Not x) = negation x

-- the whole condition
abbrev pub holds : Choice → Cond → Truth
holds choice = fold-Cond Truth (node_truth choice)
