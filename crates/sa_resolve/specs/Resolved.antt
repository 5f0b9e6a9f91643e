-- The query of a SELECT, or its least fault.
use Rattle.std.specs.Prelude.{◌≡◌, List, [], ◌∷◌, ◌++◌, map, Option, Some, None, unwrap_or}
use Rattle.std.specs.List.{zip}
use Rattle.sa_ast.specs.declared.select.OrderTree.{OrderTree}
use Rattle.sa_ast.specs.declared.select.SelectTree.{SelectTree}
use Rattle.sa_cond.specs.declared.cond.Cond.{Cond}
use Rattle.sa_cond.specs.declared.cond.Cond.TheVariants.{And}
use Rattle.sa_table.specs.Table.{Table}
use Rattle.sa_query.specs.declared.item.Item.{Item}
use Rattle.sa_query.specs.declared.order.OrderKey.{OrderKey}
use Rattle.sa_query.specs.declared.query.Query.{Query}
use Rattle.sa_query.specs.declared.query.TableUse.{TableUse}
use Rattle.sa_resolve.specs.Clauses.{Clauses, sources, clauses_of, group_columns, aggregates_of}
use Rattle.sa_resolve.specs.Fault.{Fault}
use Rattle.sa_resolve.specs.Faults.{faults_with}
use Rattle.sa_resolve.specs.Reading.{Reading}
use Rattle.sa_resolve.specs.Selected.{Selected}
use Rattle.sa_resolve.specs.Sight.{Source}

abbrev pub table_use : Source → TableUse
table_use source = record { table = unwrap_or source.table 0; alias = source.alias }

abbrev pub query_item : Selected → Item
query_item one = record { name = one.name; value = one.item.expr }

abbrev pub order_key : OrderTree → Reading → OrderKey
order_key tree one = record { value = one.expr; down = tree.down }

abbrev pub first_cond : List Reading → Option Cond
first_cond [] = None
first_cond (one ∷ others) = Some one.cond

abbrev pub query_with : List Table → SelectTree → Clauses → Query
query_with tables tree clauses = record {
  tables = map table_use (sources tables tree);
  filter = And (map (λ (one : Reading). one.cond) (clauses.on ++ clauses.filter));
  select = map query_item clauses.select;
  group = group_columns clauses;
  aggregates = aggregates_of clauses;
  having = first_cond clauses.having;
  distinct = tree.distinct;
  order = map (λ pair. order_key pair.0 pair.1) (zip tree.order clauses.order);
  limit = tree.limit;
  offset = tree.offset;
}

-- what is wrong with a SELECT over tables
unfoldable pub faults_of : List Table → SelectTree → List Fault
faults_of tables tree = faults_with tables tree (clauses_of tables tree)

-- the query of a SELECT; where something is wrong with it, nothing is said of it
unfoldable pub query_of : List Table → SelectTree → Query
query_of tables tree = query_with tables tree (clauses_of tables tree)

-- The tree stands for this query over the tables: nothing is wrong with it.
pub record IsQueryOf (tables : List Table) (tree : SelectTree) (query : Query) : Type 0 where
  pub faultless : faults_of tables tree ≡ []
  pub is : query ≡ query_of tables tree
