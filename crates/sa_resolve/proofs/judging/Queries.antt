-- The query of a SELECT, part by part.
use Rattle.std.proofs.Common.{◌≡◌, List, ◌++◌, map, Option, Some, None, refl, sym, ap, ◌∙◌}
use Rattle.std.specs.List.{zip}
use Rattle.sa_ast.specs.declared.expression.ExprTree.{ExprTree}
use Rattle.sa_ast.specs.declared.select.OrderTree.{OrderTree}
use Rattle.sa_ast.specs.declared.select.SelectTree.{SelectTree}
use Rattle.sa_table.specs.Table.{Table}
use Rattle.sa_cond.specs.declared.cond.Cond.{Cond}
use Rattle.sa_cond.specs.declared.cond.Cond.TheVariants.{And}
use Rattle.sa_query.specs.declared.group.Aggregate.{Aggregate}
use Rattle.sa_query.specs.declared.group.Column.{Column}
use Rattle.sa_query.specs.declared.item.Item.{Item}
use Rattle.sa_query.specs.declared.order.OrderKey.{OrderKey}
use Rattle.sa_query.specs.declared.query.TableUse.{TableUse}
use Rattle.sa_resolve.specs.Clauses.{Clauses, aggregates_of, clauses_with, group_columns, item_reading, items, option_list, scope_of, sources}
use Rattle.sa_resolve.specs.Expression.{Scope, first, reading}
use Rattle.sa_resolve.specs.Node.{Slots}
use Rattle.sa_resolve.specs.Reading.{Reading}
use Rattle.sa_resolve.specs.Resolved.{first_cond, order_key, query_item, query_with, table_use}
use Rattle.sa_resolve.specs.inner.Building.{placed}
use Rattle.sa_resolve.proofs.judging.Zips.{map-zip}

module _ (tables : List Table) (tree : SelectTree) (clauses : Clauses) where
  pub query_made : (uses : List TableUse) (filter : Cond) (select : List Item) (group : List Column) (aggregates : List Aggregate) (having : Option Cond)
      (order : List OrderKey) → uses ≡ map table_use (sources tables tree) → filter ≡ And (map (λ (one : Reading). one.cond) (clauses.on ++ clauses.filter))
      → select ≡ map query_item clauses.select → group ≡ group_columns clauses → aggregates ≡ aggregates_of clauses
      → having ≡ first_cond clauses.having → order ≡ map (λ pair. order_key pair.0 pair.1) (zip tree.order clauses.order)
      → record {
        tables = uses;
        filter = filter;
        select = select;
        group = group;
        aggregates = aggregates;
        having = having;
        distinct = tree.distinct;
        order = order;
        limit = tree.limit;
        offset = tree.offset;
      } ≡ query_with tables tree clauses
  query_made uses filter select group aggregates having order uses_is filter_is select_is group_is aggregates_is having_is order_is =
      rw (uses_is, filter_is, select_is, group_is, aggregates_is, having_is, order_is) refl

module _ (tables : List Table) (tree : SelectTree) (found : Option Slots) where
  -- the keys of ORDER BY
  pub keys_are : (keys : List OrderKey)
      → keys ≡ map (λ (one : OrderTree). order_key one (placed tables (scope_of tables tree found first) (items tables tree found) one.value)) tree.order
      → keys ≡ map (λ pair. order_key pair.0 pair.1) (zip tree.order (clauses_with tables tree found).order)
  keys_are keys is = is ∙ sym (map-zip (λ (pair : OrderTree × Reading). order_key pair.0 pair.1) (λ (one : OrderTree). item_reading tables tree found first one.value) tree.order)

module _ (tables : List Table) (scope : Scope) (having : Option ExprTree) where
  -- there is no HAVING
  pub none_having : having ≡ None → None ≡ first_cond (option_list (reading tables scope) having)
  none_having none = ap (λ (having : Option ExprTree). first_cond (option_list (reading tables scope) having)) (sym none)

  -- there is one
  pub some_having : (value : ExprTree) (cond : Cond) → having ≡ Some value → cond ≡ (reading tables scope value).cond
      → Some cond ≡ first_cond (option_list (reading tables scope) having)
  some_having value cond some is =
      ap (λ (cond : Cond). Some cond) is
      ∙ ap (λ (having : Option ExprTree). first_cond (option_list (reading tables scope) having)) (sym some)
