-- What is known of a SELECT in which nothing is that isn't built.
use Rattle.std.proofs.Common.{◌≡◌, ℕ, suc, ◌≤◌, Bool, true, false, not, ◌||◌, ◌==◌, List, [], ◌∷◌, ◌++◌, length, map, codes, Option, Some, None, refl, sym, ap, ◌∙◌, arith}
use Rattle.std.specs.Prelude.{is_some}
use Rattle.std.specs.List.{AllByRecursion, flat_map, zip, enumerate_from}
use Rattle.std.proofs.lemmas.List.Concat.{flat_map-append}
use Rattle.std.proofs.lemmas.Bool.Decides.{nat_tests}
use Rattle.sa_lexer.specs.declared.token.Token.{Token}
use Rattle.sa_ast.specs.declared.expression.ExprTree.{ExprTree}
use Rattle.sa_ast.specs.declared.name.NameTree.{NameTree}
use Rattle.sa_ast.specs.declared.select.GroupTree.{GroupTree}
use Rattle.sa_ast.specs.declared.select.ItemNode.{ItemNode}
use Rattle.sa_ast.specs.declared.select.ItemNode.TheVariants.{Star, TableStar, Value}
use Rattle.sa_ast.specs.declared.select.ItemTree.{ItemTree}
use Rattle.sa_ast.specs.declared.select.OrderTree.{OrderTree}
use Rattle.sa_ast.specs.declared.select.SelectTree.{SelectTree}
use Rattle.sa_ast.specs.declared.select.TableTree.{TableTree}
use Rattle.sa_table.specs.Table.{Table}
use Rattle.sa_query.specs.declared.group.Aggregate.{Aggregate}
use Rattle.sa_query.specs.declared.order.OrderKey.{OrderKey}
use Rattle.sa_query.specs.Groups.{firsts}
use Rattle.sa_query.specs.Meaning.{is_empty}
use Rattle.sa_resolve.specs.Clauses.{Clauses, clauses_with, clauses_of, option_list, item_reading, scope_of, select_scope, column_of, group_columns, aggregates_of, sources}
use Rattle.sa_resolve.specs.Expression.{Scope, first as sought_first, last as sought_last, reading}
use Rattle.sa_resolve.specs.Node.{Slots}
use Rattle.sa_resolve.specs.Reading.{Reading}
use Rattle.sa_resolve.specs.Resolved.{first_cond, order_key, query_with, query_of, table_use}
use Rattle.sa_resolve.specs.Same.{same_aggregate}
use Rattle.sa_resolve.specs.Selected.{Selected, items_at, selected, star_of, column_item}
use Rattle.sa_resolve.specs.Sight.{Source, as_list, source_named, source_of, columns_of}
use Rattle.sa_prepare.specs.PlanFor.{IsPlain}
use Rattle.sa_prepare.specs.Unbuilt.{word_place, told_at, second_table, calls_in, calls_in_item, calls_in_option, all_calls, earlier_of, least_place, unbuilt_places}
use Rattle.sa_prepare.proofs.Uncalled.{HasNone, none-left, none-right, none-in, uncalled}

some-earlier : (place : ℕ) (least : Option ℕ) → earlier_of place least ≡ None → ⊥
some-earlier place None is = cc
some-earlier place (Some other) is = cc

-- Where there is no least place there is none.
pub none_least : (places : List ℕ) → least_place places ≡ None → places ≡ []
none_least [] is = refl
none_least (place ∷ places) is = absurd (some-earlier place (least_place places) is)

untold : (stands : Bool) (place : ℕ) → told_at stands place ≡ [] → stands ≡ false
untold true place is = absurd cc
untold false place is = refl

empty : {A : Type 0} (xs : List A) → not (is_empty xs) ≡ false → xs ≡ []
empty [] is = refl
empty (x ∷ xs) is = absurd cc

nothing : {A : Type 0} (x : Option A) → is_some x ≡ false → x ≡ None
nothing None is = refl
nothing (Some x) is = absurd cc

neither : (a b : Bool) → (a || b) ≡ false → (a ≡ false) × (b ≡ false)
neither false b is = (refl, is)
neither true b is = absurd cc

at_nought : (n : ℕ) → not (n == 0) ≡ false → n ≡ 0
at_nought n is = grind (arith, nat_tests)

-- Nothing of it isn't built.
pub record IsBuilt (tree : SelectTree) : Type 0 where
  pub distinct : tree.distinct ≡ false
  pub tables : second_table tree.from ≡ []
  pub group : tree.group ≡ []
  pub having : tree.having ≡ None
  pub order : tree.order ≡ []
  pub limit : tree.limit ≡ None
  pub offset : tree.offset ≡ 0
  pub calls : all_calls tree ≡ []

pub is_built : (tokens : List Token) (tree : SelectTree) → unbuilt_places tokens tree ≡ [] → IsBuilt tree
unfolding unbuilt_places
is_built tokens tree is =
    let distinct = told_at tree.distinct (word_place (codes "DISTINCT") tokens) in
    let second = second_table tree.from in
    let group = told_at (not (is_empty tree.group)) (word_place (codes "GROUP") tokens) in
    let having = told_at (is_some tree.having) tree.having_place in
    let order = told_at (not (is_empty tree.order)) (word_place (codes "ORDER") tokens) in
    let limit = told_at (is_some tree.limit || not (tree.offset == 0)) (word_place (codes "LIMIT") tokens) in
    let to_limit = none-left (distinct ++ second ++ group ++ having ++ order ++ limit) (all_calls tree) is in
    let to_order = none-left (distinct ++ second ++ group ++ having ++ order) limit to_limit in
    let to_having = none-left (distinct ++ second ++ group ++ having) order to_order in
    let to_group = none-left (distinct ++ second ++ group) having to_having in
    let to_second = none-left (distinct ++ second) group to_group in
    let cut = neither (is_some tree.limit) (not (tree.offset == 0)) (untold _ _ (none-right (distinct ++ second ++ group ++ having ++ order) limit to_limit)) in
    record {
      distinct = untold _ _ (none-left distinct second to_second);
      tables = none-right distinct second to_second;
      group = empty tree.group (untold _ _ (none-right (distinct ++ second) group to_group));
      having = nothing tree.having (untold _ _ (none-right (distinct ++ second ++ group) having to_having));
      order = empty tree.order (untold _ _ (none-right (distinct ++ second ++ group ++ having) order to_order));
      limit = nothing tree.limit cut.0;
      offset = at_nought tree.offset cut.1;
      calls = none-right (distinct ++ second ++ group ++ having ++ order ++ limit) (all_calls tree) is;
    }

one-table : (from : List TableTree) → 1 ≤ length from → second_table from ≡ [] → length from ≡ 1
one-table [] some is = absurd (omega arith)
one-table (one ∷ []) some is = refl
one-table (one ∷ two ∷ others) some is = absurd cc

length-mapped : {A B : Type 0} (f : A → B) (xs : List A) → length (map f xs) ≡ length xs
length-mapped f [] = refl
length-mapped f (x ∷ xs) = ap suc (length-mapped f xs)

module _ (tables : List Table) (scope : Scope) where
  abbrev Bare : Selected → Type 0
  Bare one = HasNone one.item

  abbrev bare_list : List Selected → List Aggregate
  bare_list list = flat_map (λ (one : Selected). one.item.aggregates) list

  bare-append : (xs ys : List Selected) → bare_list xs ≡ [] → bare_list ys ≡ [] → bare_list (xs ++ ys) ≡ []
  bare-append xs ys first second =
      flat_map-append (λ (one : Selected). one.item.aggregates) xs ys
      ∙ ap (λ (found : List Aggregate). found ++ bare_list ys) first ∙ second

  bare-each : {A : Type 0} (f : A → List Selected) → ((x : A) → bare_list (f x) ≡ []) → (xs : List A) → bare_list (flat_map f xs) ≡ []
  bare-each f each [] = refl
  bare-each f each (x ∷ xs) = bare-append (f x) (flat_map f xs) (each x) (bare-each f each xs)

  bare-columns : {A : Type 0} (f : A → Selected) → ((x : A) → Bare (f x)) → (xs : List A) → bare_list (map f xs) ≡ []
  bare-columns f each [] = refl
  bare-columns f each (x ∷ xs) = ap (λ (found : List Aggregate). found ++ bare_list (map f xs)) (each x) ∙ bare-columns f each xs

  bare-star : (place : ℕ) (numbered : ℕ × Source) → bare_list (star_of tables scope place numbered) ≡ []
  bare-star place (number, source) =
      bare-columns (column_item tables scope place number) (λ column. refl) (enumerate_from 0 (columns_of tables source))

  bare-item : (place : ℕ) (item : ItemNode) → calls_in_item item ≡ [] → bare_list (items_at tables scope place item) ≡ []
  bare-item place Star is = bare-each (star_of tables scope place) (bare-star place) (enumerate_from 0 scope.sources)
  bare-item place (TableStar table) is =
      bare-each (star_of tables scope place) (bare-star place) (as_list (source_named scope.sources table.name))
  bare-item place (Value value alias) is =
      ap (λ (found : List Aggregate). found ++ []) (uncalled tables scope value is)

  bare-selected : (items : List ItemTree) → AllByRecursion (λ (one : ItemTree). calls_in_item one.item ≡ []) items → bare_list (selected tables scope items) ≡ []
  bare-selected [] all = refl
  bare-selected (item ∷ items) all =
      bare-append (items_at tables scope item.place item.item) (selected tables scope items) (bare-item item.place item.item all.0) (bare-selected items all.1)

mapped-list : (list : List Selected) → flat_map (λ (one : Selected). one.item.aggregates) list ≡ []
    → flat_map (λ (one : Reading). one.aggregates) (map (λ (one : Selected). one.item) list) ≡ []
mapped-list [] is = refl
mapped-list (one ∷ others) is =
    let rest = flat_map (λ (one : Selected). one.item.aggregates) others in
    ap (λ (found : List Aggregate). found ++ flat_map (λ (one : Reading). one.aggregates) (map (λ (one : Selected). one.item) others)) (none-left one.item.aggregates rest is)
    ∙ mapped-list others (none-right one.item.aggregates rest is)

abbrev aggregates_in : List Reading → List Aggregate
aggregates_in list = flat_map (λ (one : Reading). one.aggregates) list

three-none : (xs ys zs : List Reading) → aggregates_in xs ≡ [] → ys ≡ [] → zs ≡ [] → aggregates_in (xs ++ ys ++ zs) ≡ []
three-none xs ys zs is none_behind none_last =
    ap (λ (list : List Reading). aggregates_in (xs ++ list ++ zs)) none_behind
    ∙ ap (λ (list : List Reading). aggregates_in (xs ++ [] ++ list)) none_last
    ∙ flat_map-append (λ (one : Reading). one.aggregates) (xs ++ []) []
    ∙ ap (λ (found : List Aggregate). found ++ []) (flat_map-append (λ (one : Reading). one.aggregates) xs [] ∙ ap (λ (found : List Aggregate). found ++ []) is)

zip-none : (order : List OrderTree) (readings : List Reading) → order ≡ [] → map (λ (pair : OrderTree × Reading). order_key pair.0 pair.1) (zip order readings) ≡ []
zip-none order readings is = ap (λ (order : List OrderTree). map (λ (pair : OrderTree × Reading). order_key pair.0 pair.1) (zip order readings)) is

module _ (tables : List Table) (tree : SelectTree) (some : 1 ≤ length tree.from) (built : IsBuilt tree) where
  module _ (slots : Option Slots) where
    abbrev clauses : Clauses
    clauses = clauses_with tables tree slots

    no-group : clauses.group ≡ []
    no-group = ap (map (λ (one : GroupTree). item_reading tables tree slots sought_last one.value)) built.group

    no-having : clauses.having ≡ []
    no-having = ap (option_list (reading tables (scope_of tables tree slots sought_first))) built.having

    no-order : clauses.order ≡ []
    no-order = ap (map (λ (one : OrderTree). item_reading tables tree slots sought_first one.value)) built.order

    items-uncalled : AllByRecursion (λ (one : ItemTree). calls_in_item one.item ≡ []) tree.items
    items-uncalled =
        let items = flat_map (λ (one : ItemTree). calls_in_item one.item) tree.items in
        let on = flat_map (λ (one : TableTree). calls_in_option one.on) tree.from in
        let where_ = calls_in_option tree.filter in
        let group = flat_map (λ (one : GroupTree). calls_in one.value) tree.group in
        let having = calls_in_option tree.having in
        let order = flat_map (λ (one : OrderTree). calls_in one.value) tree.order in
        none-in (λ (one : ItemTree). calls_in_item one.item) tree.items
        (none-left items on
        (none-left (items ++ on) where_
        (none-left (items ++ on ++ where_) group
        (none-left (items ++ on ++ where_ ++ group) having (none-left (items ++ on ++ where_ ++ group ++ having) order built.calls)))))

    no-aggregates : aggregates_of clauses ≡ []
    no-aggregates =
        ap (firsts same_aggregate)
        (three-none (map (λ (one : Selected). one.item) clauses.select) clauses.having clauses.order
        (mapped-list clauses.select (bare-selected tables (select_scope tables tree slots) tree.items items-uncalled)) no-having no-order)

    plain-with : IsPlain (query_with tables tree clauses)
    plain-with = record {
      one = length-mapped table_use (sources tables tree) ∙ length-mapped (source_of tables) tree.from ∙ one-table tree.from some built.tables;
      group = ap (flat_map column_of) no-group;
      aggregates = no-aggregates;
      having = ap first_cond no-having;
      distinct = built.distinct;
      order = zip-none tree.order clauses.order built.order;
      limit = built.limit;
      offset = built.offset;
    }

  -- Its query is plain.
  pub query-plain : IsPlain (query_of tables tree)
  unfolding query_of clauses_of
  query-plain = plain-with _
