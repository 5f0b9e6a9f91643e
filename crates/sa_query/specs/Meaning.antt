-- What a SELECT means, but for the order of its rows and how many of them are given.
-- Source: MariaDB Knowledge Base, "SELECT".
use Rattle.std.specs.Prelude.{Bool, true, false, not, ◌||◌, List, [], ◌∷◌, map, Option, Some, None, if◌then◌else◌}
use Rattle.std.specs.List.{filter}
use Rattle.sa_value.specs.declared.value.Value.{Value}
use Rattle.sa_cond.specs.declared.cond.Cond.{Cond}
use Rattle.sa_cond.specs.Choice.{Choice}
use Rattle.sa_cond.specs.Condition.{holds}
use Rattle.sa_cond.specs.Expression.{expr_value}
use Rattle.sa_table.specs.AddRow.{same_tuple}
use Rattle.sa_table.specs.Table.{Table}
use Rattle.sa_query.specs.declared.item.Item.{Item}
use Rattle.sa_query.specs.declared.order.OrderKey.{OrderKey}
use Rattle.sa_query.specs.declared.query.Query.{Query}
use Rattle.sa_query.specs.Choices.{is_true, kept_choices}
use Rattle.sa_query.specs.Groups.{firsts, groups}

-- A selected row, and the values by which ORDER BY orders it.
pub record ResultRow : Type 0 where
  pub row : List Value
  pub order : List Value

abbrev pub is_empty : {A : Type 0} → List A → Bool
is_empty [] = true
is_empty (one ∷ others) = false

-- whether a query groups
abbrev pub does_group : Query → Bool
does_group query = not (is_empty query.group) || not (is_empty query.aggregates)

-- whether HAVING, if there is one, is TRUE
abbrev pub passes_having : Option Cond → Choice → Bool
passes_having None group = true
passes_having (Some having) group = is_true (holds group having)

-- what gives a row each: the choices that the filter keeps, or their groups that HAVING keeps
abbrev pub sources : List Table → Query → List Choice
sources tables query =
    if does_group query
    then filter (passes_having query.having) (groups query (kept_choices tables query))
    else kept_choices tables query

-- the row that a select list gives, and its ORDER BY values
abbrev pub result_of : Query → Choice → ResultRow
result_of query source = record {
  row = map (λ (item : Item). expr_value source item.value) query.select;
  order = map (λ (key : OrderKey). expr_value source key.value) query.order;
}

-- With DISTINCT the first of equal rows stays.
abbrev pub made_distinct : Bool → List ResultRow → List ResultRow
made_distinct distinct results =
    if distinct then firsts (λ one other. same_tuple one.row other.row) results else results

-- The rows of a query over tables, with their ORDER BY values. Numbers have no bounds.
unfoldable pub meaning : Query → List Table → List ResultRow
meaning query tables = made_distinct query.distinct (map (result_of query) (sources tables query))
