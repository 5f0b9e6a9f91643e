-- When a query can be planned, and its plan by what of it is planned.
use Rattle.std.specs.Prelude.{◌≡◌, ◌<◌, List, [], ◌∷◌, length, slice_index_or, All}
use Rattle.sa_ast.specs.declared.select.SelectTree.{SelectTree}
use Rattle.sa_cond.specs.declared.cond.Cond.{Cond}
use Rattle.sa_simplify.specs.Simple.{IsWellTyped, simple}
use Rattle.sa_table.specs.Table.{Table, row_count}
use Rattle.sa_query.specs.declared.item.Item.{Item}
use Rattle.sa_query.specs.declared.query.Query.{Query}
use Rattle.sa_query.specs.declared.query.TableUse.{TableUse}
use Rattle.sa_resolve.specs.Resolved.{IsQueryOf}
use Rattle.sa_plan.specs.declared.access.Access.TheVariants as access
use Rattle.sa_plan.specs.declared.plan.Plan.{Plan}
use Rattle.sa_prepare.specs.PlanFor.{conditions_of, scan_cost}

-- It is over one table, which is there, and its filter is well-typed.
pub record CanPlan (tables : List Table) (query : Query) : Type 0 where
  pub one : length query.tables ≡ 1
  pub there : All (λ (used : TableUse). used.table < length tables) query.tables
  pub filter : IsWellTyped query.filter

-- The query of a SELECT can be planned, if it has one.
abbrev pub WillPlan : List Table → SelectTree → Type 0
WillPlan tables select = (query : Query) → IsQueryOf tables select query → CanPlan tables query

-- the scan of a table
abbrev pub scan_of : List Table → TableUse → Cond → List Item → Plan
scan_of tables used filter select = record {
  levels = record {
    position = 0;
    table = used.table;
    alias = used.alias;
    access = access.All;
    conditions = conditions_of (simple filter);
    estimate = row_count tables used.table;
  } ∷ [];
  select = select;
  cost = scan_cost (row_count tables used.table);
}
