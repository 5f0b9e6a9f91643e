-- What is known of each clause of a SELECT without faults.
use Rattle.std.proofs.Common.{◌≡◌, ℕ, Bool, true, false, not, ◌&&◌, ◌||◌, List, [], ◌∷◌, ◌++◌, map, flat_map, refl, sym, ap, ◌∙◌}
use Rattle.std.specs.List.{AllByRecursion, zip}
use Rattle.std.proofs.lemmas.Bool.{not-false}
use Rattle.sa_ast.specs.declared.select.GroupTree.{GroupTree}
use Rattle.sa_ast.specs.declared.select.ItemTree.{ItemTree}
use Rattle.sa_ast.specs.declared.select.OrderTree.{OrderTree}
use Rattle.sa_ast.specs.declared.select.SelectTree.{SelectTree}
use Rattle.sa_table.specs.Table.{Table}
use Rattle.sa_query.specs.declared.refusal.ResolveKind.TheVariants.{TypeMismatch, GroupRule, TooManyItems}
use Rattle.sa_query.specs.Meaning.{is_empty}
use Rattle.sa_resolve.specs.Clauses.{Clauses, sources, groups, column_of}
use Rattle.sa_resolve.specs.Fault.{Fault, fault_at, told}
use Rattle.sa_resolve.specs.Faults.{no_aggregates, filter_faults, too_many, constant_faults, loose_faults, select_faults, group_item_faults, group_faults, having_faults, own_faults, is_selected, distinct_faults, list_faults, order_item_faults, order_faults, faults_with}
use Rattle.sa_resolve.specs.NodeFaults.{is_condition, no_value, no_condition}
use Rattle.sa_resolve.specs.Reading.{Reading}
use Rattle.sa_resolve.specs.Selected.{Selected, star_faults}
use Rattle.sa_resolve.specs.Tables.{from_faults, over_rows}
use Rattle.sa_resolve.proofs.fit.Lists.{none-left, none-right, none-in, none-map, untold, each-weaker}

-- A condition over rows.
pub record IsFilter (one : Reading) : Type 0 where
  pub faultless : one.faults ≡ []
  pub uncalled : one.calls ≡ []

is_filter : (one : Reading) → filter_faults one ≡ [] → IsFilter one
is_filter one none = record {
  faultless =
      none-left one.faults (no_condition one)
      (none-left (one.faults ++ no_condition one) (no_aggregates one) none);
  uncalled =
      none-map (fault_at GroupRule) one.calls
      (none-right (one.faults ++ no_condition one) (no_aggregates one) none);
}

module _ (clauses : Clauses) where
  -- A value whose columns are grouped.
  pub record IsItem (one : Reading) : Type 0 where
    pub faultless : one.faults ≡ []
    pub valued : is_condition one.sort ≡ false
    pub loose : loose_faults clauses one ≡ []

  pub is_item : (one : Reading) → one.faults ++ no_value one ++ loose_faults clauses one ≡ []
      → IsItem one
  is_item one none =
      let first = none-left (one.faults ++ no_value one) (loose_faults clauses one) none in
      record {
        faultless = none-left one.faults (no_value one) first;
        valued =
            untold (is_condition one.sort) TypeMismatch one.place
            (none-right one.faults (no_value one) first);
        loose = none-right (one.faults ++ no_value one) (loose_faults clauses one) none;
      }

  -- An item of GROUP BY.
  pub record IsGroupItem (one : Reading) : Type 0 where
    pub faultless : one.faults ≡ []
    pub valued : is_condition one.sort ≡ false
    pub uncalled : one.calls ≡ []
    pub column : is_empty (column_of one) ≡ false

  is_group_item : (pair : GroupTree × Reading) → group_item_faults clauses pair ≡ []
      → IsGroupItem pair.1
  is_group_item (tree, one) none =
      let three =
      none-left (one.faults ++ no_value one ++ no_aggregates one)
      (told (is_empty (column_of one)) GroupRule tree.place) none in
      let two = none-left (one.faults ++ no_value one) (no_aggregates one) three in
      record {
        faultless = none-left one.faults (no_value one) two;
        valued =
            untold (is_condition one.sort) TypeMismatch one.place
            (none-right one.faults (no_value one) two);
        uncalled =
            none-map (fault_at GroupRule) one.calls
            (none-right (one.faults ++ no_value one) (no_aggregates one) three);
        column = untold (is_empty (column_of one)) GroupRule tree.place
            (none-right (one.faults ++ no_value one ++ no_aggregates one)
            (told (is_empty (column_of one)) GroupRule tree.place) none);
      }

  -- The condition of HAVING.
  pub record IsHaving (one : Reading) : Type 0 where
    pub faultless : one.faults ≡ []
    pub loose : loose_faults clauses one ≡ []
    pub groups : groups clauses ≡ true

  is_having : (place : ℕ) (one : Reading) → one.faults ++ no_condition one ++ loose_faults clauses
      one ++ told (not (groups clauses)) GroupRule place ≡ []
      → IsHaving one
  is_having place one none =
      let last = told (not (groups clauses)) GroupRule place in
      let three =
      none-left (one.faults ++ no_condition one ++ loose_faults clauses one) last none in
      let two = none-left (one.faults ++ no_condition one) (loose_faults clauses one) three in
      record {
        faultless = none-left one.faults (no_condition one) two;
        loose = none-right (one.faults ++ no_condition one) (loose_faults clauses one) three;
        groups =
            not-false (groups clauses)
            (untold (not (groups clauses)) GroupRule place
            (none-right (one.faults ++ no_condition one ++ loose_faults clauses one) last
            none));
      }

  -- An item of ORDER BY.
  pub record IsOrderItem (distinct : Bool) (one : Reading) : Type 0 where
    pub item : IsItem one
    pub selected : distinct ≡ true → is_selected clauses one ≡ true

  selected_by : (right : Bool) (own : List Fault) (selected : Bool)
      → not (is_empty own) || (right && not selected) ≡ false → right ≡ true → selected ≡ true
  selected_by right own true none is = refl
  selected_by false own false none is = cc
  selected_by true [] false none is = cc
  selected_by true (fault ∷ own) false none is = cc

  is_order_item : (distinct right : Bool) → right ≡ true → (pair : OrderTree × Reading)
      → order_item_faults clauses distinct right pair ≡ []
      → IsOrderItem distinct pair.1
  is_order_item false right is (tree, one) none = record {
    item = is_item one (none-left (own_faults clauses one) [] none);
    selected = λ distinct. (cc);
  }
  is_order_item true right is (tree, one) none = record {
    item =
        is_item one (none-left (own_faults clauses one) (distinct_faults clauses right (tree, one))
        none);
    selected = λ distinct. selected_by right (own_faults clauses one) (is_selected clauses one)
        (untold
        (not (is_empty (own_faults clauses one)) || (right && not (is_selected clauses one)))
        GroupRule tree.place
        (none-right (own_faults clauses one) (distinct_faults clauses right (tree, one)) none)) is;
  }

-- members that stand beside what is made of them
zipped : {A B : Type 0} (P : A × B → Type 0) (f : A → B) (xs : List A)
    → AllByRecursion P (zip xs (map f xs)) → AllByRecursion (λ x. P (x, f x)) xs
zipped P f [] all = tt
zipped P f (x ∷ xs) all = (all.0, zipped P f xs all.1)

-- Nothing is wrong with the clauses of a SELECT.
pub record AreJudged (tables : List Table) (tree : SelectTree) (clauses : Clauses)
    (GroupOf : GroupTree → Reading) (OrderOf : OrderTree → Reading) : Type 0 where
  pub from : from_faults tables tree.from ≡ []
  pub filters : AllByRecursion IsFilter (clauses.on ++ clauses.filter)
  pub select : AllByRecursion (λ (one : Selected). IsItem clauses one.item) clauses.select
  pub group : AllByRecursion (λ (one : GroupTree). IsGroupItem clauses (GroupOf one)) tree.group
  pub having : AllByRecursion (IsHaving clauses) clauses.having
  pub order : AllByRecursion (λ (one : OrderTree). IsOrderItem clauses tree.distinct (OrderOf one))
      tree.order

module _ (tables : List Table) (tree : SelectTree) (clauses : Clauses)
    (group_of : GroupTree → Reading) (order_of : OrderTree → Reading)
    (group_is : clauses.group ≡ map group_of tree.group)
    (order_is : clauses.order ≡ map order_of tree.order) where
  abbrev Filters : List Fault
  Filters = flat_map filter_faults (clauses.on ++ clauses.filter)

  abbrev Stars : List Fault
  Stars =
      flat_map (λ (item : ItemTree). star_faults tables (over_rows (sources tables tree)) item.item)
      tree.items

  abbrev From : List Fault
  From = from_faults tables tree.from

  abbrev Selects : List Fault
  Selects =
      flat_map (λ (one : Selected). one.item.faults ++ no_value one.item ++ loose_faults clauses
      one.item) clauses.select

  abbrev TooMany : List Fault
  TooMany = too_many TooManyItems 64 (map (λ (one : Selected). one.place) clauses.select)

  items_are : Selects ++ TooMany ≡ [] → AllByRecursion (λ (one : Selected). IsItem clauses one.item)
      clauses.select
  items_are none =
      each-weaker (λ (one : Selected). one.item.faults ++ no_value one.item ++ loose_faults clauses
      one.item ≡ []) (λ (one : Selected). IsItem clauses one.item)
      (λ one none. is_item clauses one.item none) clauses.select
      (none-in (λ (one : Selected). one.item.faults ++ no_value one.item ++ loose_faults clauses
      one.item) clauses.select (none-left Selects TooMany none))

  groups_are : group_faults clauses tree.group ≡ []
      → AllByRecursion (λ (one : GroupTree). IsGroupItem clauses (group_of one)) tree.group
  groups_are none =
      let items =
      none-left (flat_map (group_item_faults clauses) (zip tree.group clauses.group))
      (too_many TooManyItems 8 (map (λ (tree : GroupTree). tree.place) tree.group)) none in
      zipped (λ (pair : GroupTree × Reading). IsGroupItem clauses pair.1) group_of tree.group
      (each-weaker (λ (pair : GroupTree × Reading). group_item_faults clauses pair ≡ [])
      (λ (pair : GroupTree × Reading). IsGroupItem clauses pair.1)
      (λ pair none. is_group_item clauses pair none) (zip tree.group (map group_of tree.group))
      (none-in (group_item_faults clauses) (zip tree.group (map group_of tree.group))
      (ap (λ group. flat_map (group_item_faults clauses) (zip tree.group group)) (sym group_is)
      ∙ items)))

  orders_are : (right : Bool) → right ≡ true → order_faults clauses tree.distinct right tree.order
      ≡ []
      → AllByRecursion (λ (one : OrderTree). IsOrderItem clauses tree.distinct (order_of one))
      tree.order
  orders_are right is none =
      let items =
      none-left (flat_map (order_item_faults clauses tree.distinct right)
      (zip tree.order clauses.order))
      (too_many TooManyItems 8 (map (λ (tree : OrderTree). tree.place) tree.order)) none in
      zipped (λ (pair : OrderTree × Reading). IsOrderItem clauses tree.distinct pair.1) order_of
      tree.order
      (each-weaker (λ (pair : OrderTree × Reading). order_item_faults clauses tree.distinct right
      pair ≡ []) (λ (pair : OrderTree × Reading). IsOrderItem clauses tree.distinct pair.1)
      (λ pair none. is_order_item clauses tree.distinct right is pair none)
      (zip tree.order (map order_of tree.order))
      (none-in (order_item_faults clauses tree.distinct right)
      (zip tree.order (map order_of tree.order))
      (ap (λ order. flat_map (order_item_faults clauses tree.distinct right) (zip tree.order order))
      (sym order_is) ∙ items)))

  abbrev Havings : Reading → List Fault
  Havings one =
      one.faults ++ no_condition one ++ loose_faults clauses one ++ told (not (groups clauses))
      GroupRule tree.having_place

  pub judged : faults_with tables tree clauses ≡ [] → AreJudged tables tree clauses group_of
      order_of
  judged none =
      let a = From in let b = Filters in let c = constant_faults clauses in let e =
      list_faults tables tree clauses in
      let f = group_faults clauses tree.group in let g = having_faults clauses tree.having_place in
      let h =
      order_faults clauses tree.distinct (is_empty (list_faults tables tree clauses))
      tree.order in
      let seven = none-left (a ++ b ++ c ++ e ++ f ++ g) h none in
      let six = none-left (a ++ b ++ c ++ e ++ f) g seven in
      let five = none-left (a ++ b ++ c ++ e) f six in
      let four = none-left (a ++ b ++ c) e five in
      let two = none-left (a ++ b) c four in
      let list : list_faults tables tree clauses ≡ [] = none-right (a ++ b ++ c) e five in
      let select : select_faults clauses ≡ [] = none-right Stars (select_faults clauses) list in
      record {
        from = none-left a b two;
        filters =
            each-weaker (λ (one : Reading). filter_faults one ≡ []) IsFilter is_filter
            (clauses.on ++ clauses.filter)
            (none-in filter_faults (clauses.on ++ clauses.filter) (none-right a b two));
        select = items_are select;
        group = groups_are (none-right (a ++ b ++ c ++ e) f six);
        having =
            each-weaker (λ (one : Reading). Havings one ≡ []) (IsHaving clauses)
            (is_having clauses tree.having_place) clauses.having
            (none-in Havings clauses.having (none-right (a ++ b ++ c ++ e ++ f) g seven));
        order =
            orders_are (is_empty (list_faults tables tree clauses)) (ap is_empty list)
            (none-right (a ++ b ++ c ++ e ++ f ++ g) h none);
      }
