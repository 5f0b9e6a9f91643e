-- A SELECT without faults groups exactly where its query does.
use Rattle.std.proofs.Common.{◌≡◌, ℕ, Bool, true, false, not, ◌||◌, List, [], ◌∷◌, ◌++◌, map, flat_map, Option, refl, sym, ap, ◌∙◌}
use Rattle.std.specs.Prelude.{⊤}
use Rattle.std.specs.List.{AllByRecursion, list_any}
use Rattle.std.proofs.lemmas.Bool.{or_parts, or_from}
use Rattle.sa_ast.specs.declared.select.GroupTree.{GroupTree}
use Rattle.sa_ast.specs.declared.select.OrderTree.{OrderTree}
use Rattle.sa_ast.specs.declared.select.SelectTree.{SelectTree}
use Rattle.sa_table.specs.Table.{Table}
use Rattle.sa_query.specs.Groups.{firsts}
use Rattle.sa_query.specs.Meaning.{is_empty, does_group}
use Rattle.sa_resolve.specs.Clauses.{Clauses, select_scope, scope_of, all_readings, groups, column_of, group_columns, aggregates_of}
use Rattle.sa_resolve.specs.Expression.{first, reading}
use Rattle.sa_resolve.specs.Node.{Slots}
use Rattle.sa_resolve.specs.Reading.{Reading, one_call}
use Rattle.sa_resolve.specs.Resolved.{query_with}
use Rattle.sa_resolve.specs.Same.{same_aggregate}
use Rattle.sa_resolve.specs.Selected.{Selected}
use Rattle.sa_resolve.proofs.fit.Aggregating.{Read, group_of, order_of, any_value, option-has, met}
use Rattle.sa_resolve.proofs.fit.Calls.{without_calls, without_aggregates}
use Rattle.sa_resolve.proofs.fit.Fixed.{over_groups, has_calls, aggregates_in}
use Rattle.sa_resolve.proofs.fit.Items.{items_have, aliases_have, item_has}
use Rattle.sa_resolve.proofs.fit.Judged.{AreJudged, IsFilter, IsGroupItem}
use Rattle.sa_resolve.proofs.fit.Lists.{each-left, each-right, each-append, each-map, each-mapped, each-weaker, each-always, none-in, none-of}

uncalled_by : (calls : List ℕ) (others : Bool) → not (is_empty calls) || others ≡ false
    → (calls ≡ []) × (others ≡ false)
uncalled_by [] others none = (refl, none)
uncalled_by (call ∷ calls) others none = cc

uncalled_all : (ones : List Reading) → list_any has_calls ones ≡ false
    → AllByRecursion (λ (one : Reading). one.calls ≡ []) ones
uncalled_all [] none = tt
uncalled_all (one ∷ ones) none =
    let both = uncalled_by one.calls (list_any has_calls ones) none in
    (both.0, uncalled_all ones both.1)

all_uncalled : (ones : List Reading) → AllByRecursion (λ (one : Reading). one.calls ≡ []) ones
    → list_any has_calls ones ≡ false
all_uncalled [] all = refl
all_uncalled (one ∷ ones) all =
    ap (λ calls. not (is_empty calls) || list_any has_calls ones) all.0 ∙ all_uncalled ones all.1

no_members : {A : Type 0} (xs : List A) → not (is_empty xs) ≡ false → xs ≡ []
no_members [] none = refl
no_members (x ∷ xs) none = cc

no_firsts : {A : Type 0} (alike : A → A → Bool) (xs : List A) → firsts alike xs ≡ [] → xs ≡ []
no_firsts alike [] none = refl
no_firsts alike (x ∷ xs) none = cc

same_tests : (x y : Bool) → (x ≡ false → y ≡ false) → (y ≡ false → x ≡ false) → x ≡ y
same_tests true true to from = refl
same_tests true false to from = from refl
same_tests false true to from = sym (to refl)
same_tests false false to from = refl

module _ (tables : List Table) (tree : SelectTree) (slots : Option Slots)
    (ok : AreJudged tables tree (Read tables tree slots) (group_of tables tree slots)
    (order_of tables tree slots)) where
  abbrev Clause : Clauses
  Clause = Read tables tree slots

  -- without calls there is no aggregate
  abbrev pub IsQuiet : Reading → Type 0
  IsQuiet one = one.calls ≡ [] → one.aggregates ≡ []

  items_quiet : AllByRecursion (λ (one : Selected). IsQuiet one.item) Clause.select
  items_quiet =
      items_have tables (select_scope tables tree slots) IsQuiet (λ value. ⊤)
      (λ place column seen none. refl)
      (λ value any none. (without_calls tables (select_scope tables tree slots) value none).none)
      tree.items (any_value tree.items)

  order_quiet : AllByRecursion IsQuiet Clause.order
  order_quiet =
      each-map IsQuiet (order_of tables tree slots) tree.order
      (each-always (λ (one : OrderTree). IsQuiet (order_of tables tree slots one))
      (λ one. item_has tables tree slots first IsQuiet (λ one. ⊤) (λ value. ⊤)
      (λ kind place none. refl) (λ place one any none. refl)
      (λ value any none. (without_calls tables (scope_of tables tree slots first) value none).none)
      (each-always (λ (one : Selected). ⊤) (λ one. tt) Clause.select) one.value tt) tree.order)

  having_quiet : AllByRecursion IsQuiet Clause.having
  having_quiet =
      option-has IsQuiet (reading tables (scope_of tables tree slots first)) tree.having
      (λ value none. (without_calls tables (scope_of tables tree slots first) value none).none)

  -- Without calls there is no aggregate.
  pub all_quiet : AllByRecursion IsQuiet (over_groups Clause)
  all_quiet =
      each-append IsQuiet (map (λ (one : Selected). one.item) Clause.select ++ Clause.having)
      Clause.order
      (each-append IsQuiet (map (λ (one : Selected). one.item) Clause.select) Clause.having
      (each-map IsQuiet (λ (one : Selected). one.item) Clause.select items_quiet) having_quiet)
      order_quiet

  -- the readings that a query's slots come from
  abbrev Uncalled : Reading → Type 0
  Uncalled one = one.calls ≡ []

  abbrev Items : List Reading
  Items = map (λ (one : Selected). one.item) Clause.select

  over_all : AllByRecursion Uncalled (all_readings Clause) → AllByRecursion Uncalled
      (over_groups Clause)
  over_all all =
      let a = Clause.on in let b = Clause.filter in let c = Items in let d = Clause.group in let e =
      Clause.having in let f = Clause.order in
      let five = each-left Uncalled (a ++ b ++ c ++ d ++ e) f all in
      let three =
      each-left Uncalled (a ++ b ++ c) d (each-left Uncalled (a ++ b ++ c ++ d) e five) in
      each-append Uncalled (c ++ e) f
      (each-append Uncalled c e (each-right Uncalled (a ++ b) c three)
      (each-right Uncalled (a ++ b ++ c ++ d) e five))
      (each-right Uncalled (a ++ b ++ c ++ d ++ e) f all)

  -- What groups nothing calls no aggregate, and has none.
  pub record GroupsNothing : Type 0 where
    pub group : Clause.group ≡ []
    pub uncalled : AllByRecursion (λ (one : Reading). one.calls ≡ []) (over_groups Clause)
    pub none : AllByRecursion (λ (one : Reading). one.aggregates ≡ []) (over_groups Clause)

  pub groups_nothing : groups Clause ≡ false → GroupsNothing
  groups_nothing none =
      let both =
      or_parts (not (is_empty Clause.group)) (list_any has_calls (all_readings Clause)) none in
      let uncalled = over_all (uncalled_all (all_readings Clause) both.1) in
      record {
        group = no_members Clause.group both.0;
        uncalled = uncalled;
        none =
            met Uncalled (λ (one : Reading). one.aggregates ≡ []) (over_groups Clause) all_quiet
            uncalled;
      }

  does_not : groups Clause ≡ false → does_group (query_with tables tree Clause) ≡ false
  does_not none =
      let nothing = groups_nothing none in
      let columns : group_columns Clause ≡ [] = ap (flat_map column_of) nothing.group in
      let aggregates : aggregates_of Clause ≡ [] =
      ap (firsts same_aggregate) (none-of aggregates_in (over_groups Clause) nothing.none) in
      or_from (not (is_empty (group_columns Clause))) (not (is_empty (aggregates_of Clause)))
      (ap (λ columns. not (is_empty columns)) columns)
      (ap (λ aggregates. not (is_empty aggregates)) aggregates)

  no_group : (trees : List GroupTree)
      → AllByRecursion (λ (one : GroupTree). IsGroupItem Clause (group_of tables tree slots one))
      trees
      → flat_map column_of (map (group_of tables tree slots) trees) ≡ []
      → is_empty (map (group_of tables tree slots) trees) ≡ true
  no_group [] items none = refl
  no_group (one ∷ trees) items none =
      let all = none-in column_of (map (group_of tables tree slots) (one ∷ trees)) none in
      let empty : is_empty (column_of (group_of tables tree slots one)) ≡ true =
      ap is_empty all.0 in
      let full : is_empty (column_of (group_of tables tree slots one)) ≡ false = items.0.column in
      cc

  items_bare : AllByRecursion (λ (one : Reading). one.aggregates ≡ []) Items
      → AllByRecursion (λ (one : Selected). Uncalled one.item) Clause.select
  items_bare none =
      met (λ (one : Selected). one.item.aggregates ≡ []) (λ (one : Selected). Uncalled one.item)
      Clause.select
      (items_have tables (select_scope tables tree slots) (λ one. one.aggregates ≡ []
      → Uncalled one) (λ value. ⊤) (λ place column seen none. refl)
      (λ value any. without_aggregates tables (select_scope tables tree slots) tt value) tree.items
      (any_value tree.items))
      (each-mapped (λ (one : Reading). one.aggregates ≡ []) (λ (one : Selected). one.item)
      Clause.select none)

  groups_not : does_group (query_with tables tree Clause) ≡ false → groups Clause ≡ false
  groups_not none =
      let both =
      or_parts (not (is_empty (group_columns Clause))) (not (is_empty (aggregates_of Clause)))
      none in
      let columns = no_members (group_columns Clause) both.0 in
      let aggregates =
      no_firsts same_aggregate (flat_map aggregates_in (over_groups Clause))
      (no_members (aggregates_of Clause) both.1) in
      let bare = none-in aggregates_in (over_groups Clause) aggregates in
      let first_two =
      each-left (λ (one : Reading). one.aggregates ≡ []) (Items ++ Clause.having) Clause.order
      bare in
      let items =
      items_bare (each-left (λ (one : Reading). one.aggregates ≡ []) Items Clause.having
      first_two) in
      let aliases = aliases_have Uncalled Clause.select items in
      let having : AllByRecursion Uncalled Clause.having =
      met (λ (one : Reading). one.aggregates ≡ []) Uncalled Clause.having
      (option-has (λ one. one.aggregates ≡ [] → Uncalled one)
      (reading tables (scope_of tables tree slots first)) tree.having
      (λ value. without_aggregates tables (scope_of tables tree slots first) aliases value))
      (each-right (λ (one : Reading). one.aggregates ≡ []) Items Clause.having first_two) in
      let order : AllByRecursion Uncalled Clause.order =
      met (λ (one : Reading). one.aggregates ≡ []) Uncalled Clause.order
      (each-map (λ (one : Reading). one.aggregates ≡ [] → Uncalled one) (order_of tables tree slots)
      tree.order
      (each-always (λ (one : OrderTree). (order_of tables tree slots one).aggregates ≡ []
      → Uncalled (order_of tables tree slots one))
      (λ one. item_has tables tree slots first (λ one. one.aggregates ≡ [] → Uncalled one) Uncalled
      (λ value. ⊤) (λ kind place none. refl)
      (λ place one uncalled none. ap (one_call place) uncalled)
      (λ value any. without_aggregates tables (scope_of tables tree slots first) aliases value)
      items one.value tt) tree.order))
      (each-right (λ (one : Reading). one.aggregates ≡ []) (Items ++ Clause.having) Clause.order
      bare) in
      let filters =
      each-weaker IsFilter Uncalled (λ one filter. filter.uncalled) (Clause.on ++ Clause.filter)
      ok.filters in
      let grouped = each-map Uncalled (group_of tables tree slots) tree.group
      (each-weaker (λ (one : GroupTree). IsGroupItem Clause (group_of tables tree slots one))
      (λ (one : GroupTree). Uncalled (group_of tables tree slots one))
      (λ one item. item.uncalled) tree.group ok.group) in
      let a = Clause.on ++ Clause.filter in
      let all = each-append Uncalled (a ++ Items ++ Clause.group ++ Clause.having) Clause.order
      (each-append Uncalled (a ++ Items ++ Clause.group) Clause.having
      (each-append Uncalled (a ++ Items) Clause.group
      (each-append Uncalled a Items filters
      (each-map Uncalled (λ (one : Selected). one.item) Clause.select items)) grouped) having)
      order in
      or_from (not (is_empty Clause.group)) (list_any has_calls (all_readings Clause))
      (ap not (no_group tree.group ok.group columns)) (all_uncalled (all_readings Clause) all)

  -- The SELECT groups exactly where its query does.
  pub groups_is : groups Clause ≡ does_group (query_with tables tree Clause)
  groups_is =
      same_tests (groups Clause) (does_group (query_with tables tree Clause)) does_not groups_not
