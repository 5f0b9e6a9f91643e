-- Which lists of rows answer a SELECT.
-- Source: MariaDB Knowledge Base, "ORDER BY" and "LIMIT": rows whose ORDER BY values are equal may stand in any order.
use Rattle.std.specs.Prelude.{◌≡◌, ℕ, Bool, List, ◌∷◌, map, take, drop, Option, Some, None, IsPermutation, IsSortedBy, if◌then◌else◌}
use Rattle.std.specs.Ordering.{is_lt, ordering_then, ordering_reverse}
use Rattle.std.specs.declared.cmp.Ordering.{Ordering}
use Rattle.std.specs.declared.cmp.Ordering.TheVariants.{Equal}
use Rattle.sa_value.specs.declared.value.Value.{Value}
use Rattle.sa_value.specs.Compare.{order_of}
use Rattle.sa_table.specs.Table.{Table}
use Rattle.sa_query.specs.declared.order.OrderKey.{OrderKey}
use Rattle.sa_query.specs.declared.query.Query.{Query}
use Rattle.sa_query.specs.Meaning.{ResultRow, meaning}

-- how two values stand in the direction of an item of ORDER BY
abbrev pub order_by : OrderKey → Value → Value → Ordering
order_by key one other =
    if key.down then ordering_reverse (order_of one other) else order_of one other

-- how the ORDER BY values of two rows stand: the first item in which they differ decides
abbrev pub order_in : List OrderKey → List Value → List Value → Ordering
order_in (key ∷ keys) (one ∷ ones) (other ∷ others) =
    ordering_then (order_by key one other) (order_in keys ones others)
order_in keys ones others = Equal

-- whether a row has to stand before another
abbrev pub comes_before : Query → ResultRow → ResultRow → Bool
comes_before query one other = is_lt (order_in query.order one.order other.order)

abbrev pub cut : Option ℕ → List (List Value) → List (List Value)
cut None rows = rows
cut (Some limit) rows = take limit rows

-- The rows answer the query: its results stand in some order in which ORDER BY values never fall in
-- the asked directions, and of their rows the first `offset` are passed over and `limit` are given.
pub record AnswersQuery (query : Query) (tables : List Table) (rows : List (List Value)) : Type 0 where
  pub arranged : List ResultRow
  pub same : IsPermutation (meaning query tables) arranged
  pub in_order : IsSortedBy (comes_before query) arranged
  pub rows_are : rows ≡ cut query.limit (drop query.offset (map (λ (one : ResultRow). one.row) arranged))
