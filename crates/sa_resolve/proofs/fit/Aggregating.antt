-- The aggregates of a SELECT without faults: their numbers are kept as `Int`, and each has a slot.
use Rattle.std.proofs.Common.{◌≡◌, true, List, [], ◌++◌, map, flat_map, Option, Some, None}
use Rattle.std.specs.Prelude.{⊤}
use Rattle.std.specs.List.{AllByRecursion, list_any}
use Rattle.sa_ast.specs.declared.select.GroupTree.{GroupTree}
use Rattle.sa_ast.specs.declared.select.ItemNode.{ItemNode}
use Rattle.sa_ast.specs.declared.select.ItemNode.TheVariants.{Star, TableStar, Value}
use Rattle.sa_ast.specs.declared.select.ItemTree.{ItemTree}
use Rattle.sa_ast.specs.declared.select.OrderTree.{OrderTree}
use Rattle.sa_ast.specs.declared.select.SelectTree.{SelectTree}
use Rattle.sa_table.specs.Table.{Table}
use Rattle.sa_query.specs.declared.group.Aggregate.{Aggregate}
use Rattle.sa_resolve.specs.Clauses.{Clauses, select_scope, scope_of, item_reading, option_list, clauses_with, aggregates_of}
use Rattle.sa_resolve.specs.Expression.{Alias, first, last, reading}
use Rattle.sa_resolve.specs.Node.{Slots}
use Rattle.sa_resolve.specs.Reading.{Reading}
use Rattle.sa_resolve.specs.Same.{same_aggregate}
use Rattle.sa_resolve.specs.Selected.{Selected, aliases_of}
use Rattle.sa_resolve.proofs.fit.Equal.{equal_aggregate, itself_aggregate}
use Rattle.sa_resolve.proofs.fit.Firsts.{firsts-has, each_first}
use Rattle.sa_resolve.proofs.fit.Fixed.{over_groups, aggregates_in}
use Rattle.sa_resolve.proofs.fit.Items.{OfValue, items_have, aliases_have, item_has}
use Rattle.sa_resolve.proofs.fit.Judged.{AreJudged, IsItem, IsHaving, IsOrderItem}
use Rattle.sa_resolve.proofs.fit.Kept.{IsKept, IsPlainAggregate, column-kept, reading-kept}
use Rattle.sa_resolve.proofs.fit.Lists.{each-append, each-map, each-of, each-in, each-weaker, each-always, each-both}

-- each value of a select list, whatever it is
pub any_value : (trees : List ItemTree)
    → AllByRecursion (λ (tree : ItemTree). OfValue (λ value. ⊤) tree.item) trees
any_value trees =
    each-always (λ (tree : ItemTree). OfValue (λ value. ⊤) tree.item) (λ tree. of tree.item) trees
  where
    of : (node : ItemNode) → OfValue (λ value. ⊤) node
    of Star = tt
    of (TableStar table) = tt
    of (Value value alias) = tt

pub option-has : {A B : Type 0} (P : B → Type 0) (f : A → B) (found : Option A)
    → ((one : A) → P (f one)) → AllByRecursion P (option_list f found)
option-has P f None has = tt
option-has P f (Some one) has = (has one, tt)

-- what has an implication and its premise
pub met : {A : Type 0} (P Q : A → Type 0) (xs : List A) → AllByRecursion (λ x. P x → Q x) xs
    → AllByRecursion P xs → AllByRecursion Q xs
met P Q xs implies has =
    each-weaker (λ x. (P x → Q x) × P x) Q (λ x both. both.0 both.1) xs
    (each-both (λ x. P x → Q x) P xs implies has)

module _ (tables : List Table) (tree : SelectTree) (slots : Option Slots) where
  abbrev pub Read : Clauses
  Read = clauses_with tables tree slots

  abbrev pub group_of : GroupTree → Reading
  group_of one = item_reading tables tree slots last one.value

  abbrev pub order_of : OrderTree → Reading
  order_of one = item_reading tables tree slots first one.value

  module _ (ok : AreJudged tables tree Read group_of order_of) where
    faultless : AllByRecursion (λ (one : Selected). one.item.faults ≡ []) Read.select
    faultless =
        each-weaker (λ (one : Selected). IsItem Read one.item) (λ (one : Selected). one.item.faults
        ≡ []) (λ one item. item.faultless) Read.select ok.select

    pub items_kept : AllByRecursion (λ (one : Selected). IsKept one.item) Read.select
    items_kept =
        met (λ (one : Selected). one.item.faults ≡ []) (λ (one : Selected). IsKept one.item)
        Read.select
        (items_have tables (select_scope tables tree slots) (λ one. one.faults ≡ [] → IsKept one)
        (λ value. ⊤)
        (λ place column seen none. column-kept tables (select_scope tables tree slots) tt place
        column)
        (λ value any. reading-kept tables (select_scope tables tree slots) tt value) tree.items
        (any_value tree.items)) faultless

    aliases_kept : AllByRecursion (λ (alias : Alias). IsKept alias.item) (aliases_of Read.select)
    aliases_kept = aliases_have IsKept Read.select items_kept

    having_kept : AllByRecursion IsKept Read.having
    having_kept =
        met (λ (one : Reading). one.faults ≡ []) IsKept Read.having
        (option-has (λ one. one.faults ≡ [] → IsKept one)
        (reading tables (scope_of tables tree slots first)) tree.having
        (λ value. reading-kept tables (scope_of tables tree slots first) aliases_kept value))
        (each-weaker (IsHaving Read) (λ (one : Reading). one.faults ≡ [])
        (λ one having. having.faultless) Read.having ok.having)

    pub order_kept : AllByRecursion IsKept Read.order
    order_kept =
        each-map IsKept order_of tree.order
        (each-weaker (λ (one : OrderTree). IsOrderItem Read tree.distinct (order_of one))
        (λ (one : OrderTree). IsKept (order_of one))
        (λ one order. item_has tables tree slots first (λ one. one.faults ≡ [] → IsKept one) IsKept
        (λ value. ⊤)
        (λ kind place none. cc)
        (λ place one kept none. record { row = kept.row; expr = kept.expr; aggregates = tt })
        (λ value any. reading-kept tables (scope_of tables tree slots first) aliases_kept value)
        items_kept one.value tt order.item.faultless) tree.order ok.order)

    all_kept : AllByRecursion IsKept (over_groups Read)
    all_kept =
        each-append IsKept (map (λ (one : Selected). one.item) Read.select ++ Read.having)
        Read.order
        (each-append IsKept (map (λ (one : Selected). one.item) Read.select) Read.having
        (each-map IsKept (λ (one : Selected). one.item) Read.select items_kept) having_kept)
        order_kept

    every_plain : AllByRecursion IsPlainAggregate (flat_map aggregates_in (over_groups Read))
    every_plain =
        each-of IsPlainAggregate aggregates_in (over_groups Read)
        (each-weaker IsKept (λ (one : Reading). AllByRecursion IsPlainAggregate one.aggregates)
        (λ one kept. kept.aggregates) (over_groups Read) all_kept)

    -- The numbers of all aggregates are kept as `Int`.
    pub aggregates_plain : AllByRecursion IsPlainAggregate (aggregates_of Read)
    aggregates_plain =
        firsts-has IsPlainAggregate same_aggregate (flat_map aggregates_in (over_groups Read))
        every_plain

    -- An aggregate that is found among those of the query.
    pub record IsFound (one : Aggregate) : Type 0 where
      pub found : list_any (same_aggregate one) (aggregates_of Read) ≡ true
      pub plain : IsPlainAggregate one

    -- Each aggregate is found among those of the query.
    pub aggregates_found : AllByRecursion (λ (one : Reading). AllByRecursion IsFound one.aggregates)
        (over_groups Read)
    aggregates_found =
        each-in IsFound aggregates_in (over_groups Read)
        (each-weaker
        (λ (one : Aggregate). (list_any (same_aggregate one) (aggregates_of Read)
        ≡ true) × IsPlainAggregate one) IsFound
        (λ one both. record { found = both.0; plain = both.1 })
        (flat_map aggregates_in (over_groups Read))
        (each-both (λ (one : Aggregate). list_any (same_aggregate one) (aggregates_of Read) ≡ true)
        IsPlainAggregate (flat_map aggregates_in (over_groups Read))
        (each_first IsPlainAggregate same_aggregate itself_aggregate equal_aggregate
        (flat_map aggregates_in (over_groups Read)) every_plain) every_plain))
