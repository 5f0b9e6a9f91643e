-- For what an access is chosen, and when it can be.
use Rattle.std.specs.Prelude.{◌≡◌, ◌≢◌, ℕ, ◌<◌, List, [], ◌∷◌, map, length, slice_index_or, All, AllPairs}
use Rattle.std.specs.List.{enumerate_from}
use Rattle.sa_cond.specs.declared.cond.Cond.{Cond}
use Rattle.sa_interval.specs.declared.list.RangeList.{RangeList}
use Rattle.sa_query.specs.declared.query.Query.{Query}
use Rattle.sa_query.specs.declared.query.TableUse.{TableUse}
use Rattle.sa_query.specs.WellTyped.{IsWellTyped}
use Rattle.sa_range.specs.RangeList.{range_list}
use Rattle.sa_simplify.specs.Simple.{simple}
use Rattle.sa_table.specs.declared.def.KeyDef.{KeyDef}
use Rattle.sa_table.specs.Table.{Table, table_at}

-- An access to the table in this position of a query's FROM, after those in earlier ones.
pub record Asked : Type 0 where
  pub tables : List Table
  pub query : Query
  pub earlier : List ℕ
  pub position : ℕ

-- the number of the table
abbrev pub asked_table : Asked → ℕ
asked_table asked =
    (slice_index_or asked.query.tables asked.position (record { table = 0; alias = [] })).table

-- the ranges that a query's filter leaves of each key of the table in one position of FROM
abbrev pub table_ranges : List Table → Cond → ℕ × TableUse → List RangeList
table_ranges tables filter used =
    map (λ (key : KeyDef). range_list filter used.0 key.parts)
    (table_at tables used.1.table).def.keys

-- those of all tables of FROM
abbrev pub range_lists : List Table → Query → List (List RangeList)
range_lists tables query =
    map (table_ranges tables query.filter) (enumerate_from 0 query.tables)

-- The query fits the tables and its filter is simplified, the positions are of its FROM and differ,
-- and these are its ranges.
pub record CanChoose (asked : Asked) (ranges : List (List RangeList)) : Type 0 where
  pub fits : IsWellTyped asked.tables asked.query
  pub simplified : simple asked.query.filter ≡ asked.query.filter
  pub there : All (λ position. position < length asked.query.tables)
      (asked.position ∷ asked.earlier)
  pub differ : AllPairs (λ one other. one ≢ other) (asked.position ∷ asked.earlier)
  pub ranges_are : ranges ≡ range_lists asked.tables asked.query
