-- The slots that the clauses of a SELECT give are those that they were read with.
use Rattle.std.proofs.Common.{◌≡◌, ℕ, suc, zero, ℤ, pos, negsuc, Bool, not, ◌||◌, List, [], ◌∷◌, ◌++◌, map, flat_map, Option, Some, None, option_map, refl, sym, ap, ◌∙◌}
use Rattle.std.specs.List.{list_any, enumerate_from}
use Rattle.std.proofs.lemmas.List.Folds.{flat_map-map}
use Rattle.std.proofs.lemmas.List.{map-append}
use Rattle.std.proofs.lemmas.Option.{slice_get-map}
use mathlib.Core.Path.{ap₂, fun_ext}
use Rattle.sa_ast.specs.declared.expression.ExprNode.{ExprNode, ExprNode-F, out-ExprNode}
use Rattle.sa_ast.specs.declared.expression.ExprTree.{ExprTree}
use Rattle.sa_ast.specs.declared.select.GroupTree.{GroupTree}
use Rattle.sa_ast.specs.declared.select.ItemNode.{ItemNode}
use Rattle.sa_ast.specs.declared.select.ItemNode.TheVariants.{Star, TableStar, Value}
use Rattle.sa_ast.specs.declared.select.ItemTree.{ItemTree}
use Rattle.sa_ast.specs.declared.select.OrderTree.{OrderTree}
use Rattle.sa_ast.specs.declared.select.SelectTree.{SelectTree}
use Rattle.sa_table.specs.Table.{Table}
use Rattle.sa_query.specs.declared.group.Aggregate.{Aggregate}
use Rattle.sa_query.specs.Meaning.{is_empty}
use Rattle.sa_query.specs.Groups.{firsts}
use Rattle.sa_resolve.specs.Clauses.{Clauses, sources, select_scope, items, scope_of, item_reading, item_at, positioned, option_list, clauses_with, all_readings, groups, column_of, group_columns, aggregates_of, slots_of}
use Rattle.sa_resolve.specs.Expression.{Alias, Seeks, first, last, reading}
use Rattle.sa_resolve.specs.Node.{Slots}
use Rattle.sa_resolve.specs.Reading.{Reading}
use Rattle.sa_resolve.specs.Same.{same_aggregate}
use Rattle.sa_resolve.specs.Selected.{Selected, item_name, alias_in, column_item, star_of, items_at, alias_of, aliases_of}
use Rattle.sa_resolve.specs.Sight.{Source, as_list, columns_of, source_named}
use Rattle.sa_resolve.proofs.fit.Erased.{erased, erased_alias, erased_scope, erased-reading, list_any-map}
use Rattle.sa_resolve.proofs.fit.Layers.{map-twice}

abbrev pub erased_item : Selected → Selected
erased_item one = record one { item = erased one.item }

map-flat_map : {A B C : Type 0} (f : B → C) (g : A → List B) (xs : List A) → map f (flat_map g xs)
    ≡ flat_map (λ x. map f (g x)) xs
map-flat_map f g [] = refl
map-flat_map f g (x ∷ xs) =
    map-append f (g x) (flat_map g xs) ∙ ap (λ list. map f (g x) ++ list) (map-flat_map f g xs)

-- readings of a list's members in two ways
map-alike : {A B C : Type 0} (f g : A → B) (h : B → C) → ((x : A) → h (f x) ≡ h (g x))
    → (xs : List A) → map h (map f xs) ≡ map h (map g xs)
map-alike f g h same [] = refl
map-alike f g h same (x ∷ xs) = ap₂ (λ one others. one ∷ others) (same x) (map-alike f g h same xs)

option-alike : {A B C : Type 0} (f g : A → B) (h : B → C) → ((x : A) → h (f x) ≡ h (g x))
    → (found : Option A)
    → map h (option_list f found) ≡ map h (option_list g found)
option-alike f g h same None = refl
option-alike f g h same (Some x) = ap (λ one. one ∷ []) (same x)

flat-alike : {A B C : Type 0} (f g : A → List B) (h : B → C) → ((x : A) → map h (f x) ≡ map h (g x))
    → (xs : List A)
    → map h (flat_map f xs) ≡ map h (flat_map g xs)
flat-alike f g h same xs =
    map-flat_map h f xs ∙ ap (λ list. flat_map list xs) (fun_ext same) ∙ sym (map-flat_map h g xs)

alias-erased : (one : Selected) → map erased_alias (alias_of one) ≡ alias_of (erased_item one)
alias-erased one =
    map-twice (λ name. record { name = name; item = one.item }) erased_alias (as_list one.alias)

aliases-erased : (list : List Selected) → map erased_alias (aliases_of list) ≡ aliases_of
    (map erased_item list)
aliases-erased list =
    map-flat_map erased_alias alias_of list ∙ ap (λ f. flat_map f list) (fun_ext alias-erased)
    ∙ sym (flat_map-map alias_of erased_item list)

item_at-erased : (list : List Selected) (number : ℤ) → option_map erased_item (item_at list number)
    ≡ item_at (map erased_item list) number
item_at-erased list (pos zero) = refl
item_at-erased list (pos (suc number)) = sym (slice_get-map erased_item list number)
item_at-erased list (negsuc number) = refl

positioned-erased : (place : ℕ) (found : Option Selected) → erased (positioned place found)
    ≡ erased (positioned place (option_map erased_item found))
positioned-erased place None = refl
positioned-erased place (Some one) = refl

module _ (tables : List Table) (tree : SelectTree) (slots : Option Slots) where
  star-alike : (place : ℕ) (numbered : ℕ × Source)
      → map erased_item (star_of tables (select_scope tables tree slots) place numbered)
      ≡ map erased_item (star_of tables (select_scope tables tree None) place numbered)
  star-alike place numbered =
      map-alike (column_item tables (select_scope tables tree slots) place numbered.0)
      (column_item tables (select_scope tables tree None) place numbered.0)
      erased_item (λ column. refl) (enumerate_from 0 (columns_of tables numbered.1))

  node-alike : (place : ℕ) (node : ItemNode)
      → map erased_item (items_at tables (select_scope tables tree slots) place node)
      ≡ map erased_item (items_at tables (select_scope tables tree None) place node)
  node-alike place Star =
      flat-alike (star_of tables (select_scope tables tree slots) place)
      (star_of tables (select_scope tables tree None) place)
      erased_item (star-alike place) (enumerate_from 0 (sources tables tree))
  node-alike place (TableStar table) =
      flat-alike (star_of tables (select_scope tables tree slots) place)
      (star_of tables (select_scope tables tree None) place)
      erased_item (star-alike place) (as_list (source_named (sources tables tree) table.name))
  node-alike place (Value value alias) =
      ap (λ item. record {
        name = item_name value alias;
        alias = alias_in alias;
        place = place;
        item = item;
      } ∷ []) (erased-reading tables (select_scope tables tree slots) value)

  items-alike : map erased_item (items tables tree slots) ≡ map erased_item (items tables tree None)
  items-alike =
      flat-alike (λ (one : ItemTree). items_at tables (select_scope tables tree slots) one.place
      one.item)
      (λ (one : ItemTree). items_at tables (select_scope tables tree None) one.place one.item)
      erased_item
      (λ one. node-alike one.place one.item) tree.items

  scope-alike : (seeks : Seeks) → erased_scope (scope_of tables tree slots seeks) ≡ erased_scope
      (scope_of tables tree None seeks)
  scope-alike seeks =
      ap (λ (aliases : List Alias). record {
        sources = sources tables tree;
        aliases = aliases;
        seeks = seeks;
        slots = None;
      })
      (aliases-erased (items tables tree slots) ∙ ap aliases_of items-alike
      ∙ sym (aliases-erased (items tables tree None)))

  reading-alike : (seeks : Seeks) (value : ExprTree)
      → erased (reading tables (scope_of tables tree slots seeks) value)
      ≡ erased (reading tables (scope_of tables tree None seeks) value)
  reading-alike seeks value =
      erased-reading tables (scope_of tables tree slots seeks) value
      ∙ ap (λ scope. erased (reading tables scope value)) (scope-alike seeks)
      ∙ sym (erased-reading tables (scope_of tables tree None seeks) value)

  at-alike : (place : ℕ) (number : ℤ)
      → erased (positioned place (item_at (items tables tree slots) number))
      ≡ erased (positioned place (item_at (items tables tree None) number))
  at-alike place number =
      positioned-erased place (item_at (items tables tree slots) number)
      ∙ ap (λ found. erased (positioned place found))
      (item_at-erased (items tables tree slots) number ∙ ap (λ list. item_at list number)
      items-alike ∙ sym (item_at-erased (items tables tree None) number))
      ∙ sym (positioned-erased place (item_at (items tables tree None) number))

  by_node : (seeks : Seeks) (value : ExprTree) (node : ExprNode-F ExprNode ExprTree)
      → out-ExprNode value.node ≡ node
      → erased (item_reading tables tree slots seeks value)
      ≡ erased (item_reading tables tree None seeks value)
  by_node seeks value (ExprNode-F.Number number) is = rw is (at-alike value.place number)
  by_node seeks value node is = rw is (reading-alike seeks value)

  item-alike : (seeks : Seeks) (value : ExprTree)
      → erased (item_reading tables tree slots seeks value)
      ≡ erased (item_reading tables tree None seeks value)
  item-alike seeks value = by_node seeks value (out-ExprNode value.node) refl

  group-alike : map erased (clauses_with tables tree slots).group ≡ map erased
      (clauses_with tables tree None).group
  group-alike =
      map-alike (λ (one : GroupTree). item_reading tables tree slots last one.value)
      (λ (one : GroupTree). item_reading tables tree None last one.value)
      erased (λ one. item-alike last one.value) tree.group

  order-alike : map erased (clauses_with tables tree slots).order ≡ map erased
      (clauses_with tables tree None).order
  order-alike =
      map-alike (λ (one : OrderTree). item_reading tables tree slots first one.value)
      (λ (one : OrderTree). item_reading tables tree None first one.value)
      erased (λ one. item-alike first one.value) tree.order

  having-alike : map erased (clauses_with tables tree slots).having ≡ map erased
      (clauses_with tables tree None).having
  having-alike =
      option-alike (reading tables (scope_of tables tree slots first))
      (reading tables (scope_of tables tree None first)) erased (reading-alike first)
      tree.having

-- the clauses without what stands for them in the query
abbrev erased_clauses : Clauses → Clauses
erased_clauses clauses = record {
  on = map erased clauses.on;
  filter = map erased clauses.filter;
  select = map erased_item clauses.select;
  group = map erased clauses.group;
  having = map erased clauses.having;
  order = map erased clauses.order;
}

is_empty-map : {A B : Type 0} (f : A → B) (xs : List A) → is_empty (map f xs) ≡ is_empty xs
is_empty-map f [] = refl
is_empty-map f (x ∷ xs) = refl

items-erased : (select : List Selected) → map (λ (one : Selected). one.item)
    (map erased_item select) ≡ map erased (map (λ (one : Selected). one.item) select)
items-erased select =
    map-twice erased_item (λ (one : Selected). one.item) select
    ∙ sym (map-twice (λ (one : Selected). one.item) erased select)

abbrev pub has_calls : Reading → Bool
has_calls one = not (is_empty one.calls)

abbrev pub aggregates_in : Reading → List Aggregate
aggregates_in one = one.aggregates

abbrev pub over_groups : Clauses → List Reading
over_groups clauses =
    map (λ (one : Selected). one.item) clauses.select ++ clauses.having ++ clauses.order

module _ (clauses : Clauses) where
  all-erased : all_readings (erased_clauses clauses) ≡ map erased (all_readings clauses)
  all-erased = simp (map-append, items-erased)

  groups-erased : groups (erased_clauses clauses) ≡ groups clauses
  groups-erased =
      ap₂ (λ one other. not one || other) (is_empty-map erased clauses.group)
      (ap (list_any has_calls) all-erased ∙ list_any-map erased has_calls (all_readings clauses))

  over_groups-erased : over_groups (erased_clauses clauses) ≡ map erased (over_groups clauses)
  over_groups-erased = simp (map-append, items-erased)

  group_columns-erased : group_columns (erased_clauses clauses) ≡ group_columns clauses
  group_columns-erased = flat_map-map column_of erased clauses.group

  aggregates-erased : aggregates_of (erased_clauses clauses) ≡ aggregates_of clauses
  aggregates-erased =
      ap (λ readings. firsts same_aggregate (flat_map aggregates_in readings)) over_groups-erased
      ∙ ap (firsts same_aggregate) (flat_map-map aggregates_in erased (over_groups clauses))

  slots-erased : slots_of (erased_clauses clauses) ≡ slots_of clauses
  slots-erased = rw (groups-erased, group_columns-erased, aggregates-erased) refl

module _ (tables : List Table) (tree : SelectTree) where
  clauses-alike : (slots : Option Slots) → erased_clauses (clauses_with tables tree slots)
      ≡ erased_clauses (clauses_with tables tree None)
  clauses-alike slots = λ i. record {
    on = map erased (clauses_with tables tree None).on;
    filter = map erased (clauses_with tables tree None).filter;
    select = items-alike tables tree slots i;
    group = group-alike tables tree slots i;
    having = having-alike tables tree slots i;
    order = order-alike tables tree slots i;
  }

  -- The slots that the clauses give are the same, whatever slots they are read with.
  pub slots-fixed : (slots : Option Slots) → slots_of (clauses_with tables tree slots)
      ≡ slots_of (clauses_with tables tree None)
  slots-fixed slots =
      sym (slots-erased (clauses_with tables tree slots)) ∙ ap slots_of (clauses-alike slots)
      ∙ slots-erased (clauses_with tables tree None)
