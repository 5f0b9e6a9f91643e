-- What planning needs of the query of a SELECT.
use Rattle.std.proofs.Common.{◌≡◌, ◌<◌, false, List, length, All}
use Rattle.sa_ast.specs.declared.select.SelectTree.{SelectTree}
use Rattle.sa_table.specs.Table.{Table}
use Rattle.sa_query.specs.declared.item.Item.{Item}
use Rattle.sa_query.specs.declared.query.Query.{Query}
use Rattle.sa_query.specs.declared.query.TableUse.{TableUse}
use Rattle.sa_query.specs.Meaning.{does_group}
use Rattle.sa_query.specs.WellTyped.{IsFitExpr, IsFitCond}
use Rattle.sa_resolve.specs.Resolved.{IsQueryOf}
use Rattle.sa_resolve.proofs.fit.Proved.{filter_is_fit, select_is_fit, tables_are_there}

-- Its tables are there, its filter is well-typed, and so is its select list where it doesn't group.
pub record IsFit (tables : List Table) (query : Query) : Type 0 where
  pub there : All (λ (used : TableUse). used.table < length tables) query.tables
  pub filter : IsFitCond tables query false query.filter
  pub select : does_group query ≡ false → All (λ (item : Item). IsFitExpr tables query false item.value) query.select

pub query_fits : (tables : List Table) (tree : SelectTree) (query : Query) → IsQueryOf tables tree query → IsFit tables query
query_fits tables tree query is = record {
  there = tables_are_there tables tree query is;
  filter = filter_is_fit tables tree query is;
  select = select_is_fit tables tree query is;
}
