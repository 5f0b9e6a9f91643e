-- The plan of a query over one table: all of the table is read.
use Rattle.std.specs.Prelude.{◌≡◌, ℕ, ◌+◌, ◌*◌, Bool, false, List, [], ◌∷◌, length, slice_index_or, None, if◌then◌else◌}
use Rattle.sa_cond.specs.declared.cond.Cond.{Cond}
use Rattle.sa_simplify.specs.Flatten.{is_true, conjuncts_of}
use Rattle.sa_simplify.specs.Simple.{simple}
use Rattle.sa_table.specs.Table.{Table, row_count}
use Rattle.sa_query.specs.declared.query.Query.{Query}
use Rattle.sa_query.specs.declared.query.TableUse.{TableUse}
use Rattle.sa_plan.specs.declared.access.Access.TheVariants.{All}
use Rattle.sa_plan.specs.declared.plan.Level.{Level}
use Rattle.sa_plan.specs.declared.plan.Plan.{Plan}

-- a full scan: 20 for the table and 5 for each row
abbrev pub scan_cost : (rows : ℕ) → ℕ
scan_cost rows = 20 + 5 * rows

abbrev pub the_table : Query → TableUse
the_table query = slice_index_or query.tables 0 (record { table = 0; alias = [] })

-- The conditions of a simplified filter are its conjuncts, in order. One that is TRUE asks for none.
abbrev pub conditions_of : Cond → List Cond
conditions_of filter = if is_true filter then [] else conjuncts_of filter

-- the only level: all rows of the table, under the conditions of the filter
abbrev pub scan_level : List Table → Query → TableUse → Level
scan_level tables query used = record {
  position = 0;
  table = used.table;
  alias = used.alias;
  access = All;
  conditions = conditions_of (simple query.filter);
  estimate = row_count tables used.table;
}

unfoldable pub plan_for : List Table → Query → Plan
plan_for tables query = record {
  levels = scan_level tables query (the_table query) ∷ [];
  select = query.select;
  cost = scan_cost (row_count tables (the_table query).table);
}

-- A query is over one table and asks for nothing that isn't built: its rows neither group nor are
-- they made distinct, put in order or cut.
pub record IsPlain (query : Query) : Type 0 where
  pub one : length query.tables ≡ 1
  pub group : query.group ≡ []
  pub aggregates : query.aggregates ≡ []
  pub having : query.having ≡ None
  pub distinct : query.distinct ≡ false
  pub order : query.order ≡ []
  pub limit : query.limit ≡ None
  pub offset : query.offset ≡ 0
