-- The query of a SELECT fits the tables.
use Rattle.std.proofs.Common.{◌≡◌, ℕ, ◌<◌, ◌≤◌, Bool, true, false, List, [], ◌∷◌, ◌++◌, map, flat_map, length, Option, Some, None, is_some, refl, sym, ap, ◌∙◌, subst, arith}
use Rattle.std.specs.Prelude.{All, Any}
use Rattle.std.specs.List.{AllByRecursion, zip}
use Rattle.std.specs.Option.{IfSome}
use Rattle.std.proofs.lemmas.List.{length-map, get_or-map}
use Rattle.std.proofs.lemmas.List.Elements.{All-from_recursion, recursion_from_All}
use Rattle.std.proofs.lemmas.List.Folds.{Any-from_list_any}
use Rattle.sa_ast.specs.declared.expression.ExprNode.{ExprNode, ExprNode-F, out-ExprNode, fold_out-ExprNode}
use Rattle.sa_ast.specs.declared.expression.ExprTree.{ExprTree, fold_out-ExprTree}
use Rattle.sa_ast.specs.declared.select.GroupTree.{GroupTree}
use Rattle.sa_ast.specs.declared.select.ItemNode.{ItemNode}
use Rattle.sa_ast.specs.declared.select.ItemNode.TheVariants.{Star, TableStar, Value}
use Rattle.sa_ast.specs.declared.select.ItemTree.{ItemTree}
use Rattle.sa_ast.specs.declared.select.OrderTree.{OrderTree}
use Rattle.sa_ast.specs.declared.select.SelectTree.{SelectTree}
use Rattle.sa_cond.specs.declared.cond.Cond.{Cond}
use Rattle.sa_cond.specs.declared.expr.Expr.{Expr, Expr-F, out-Expr, roll-Expr, roll-out-Expr}
use Rattle.sa_cond.specs.declared.expr.Expr.TheVariants.{Column as column_expr, rolls-Column}
use Rattle.sa_cond.specs.Cited.{expr_names, cond_names}
use Rattle.sa_cond.specs.Interval.{ExprKind}
use Rattle.sa_cond.specs.Typed.{is_proper}
use Rattle.sa_cond.proofs.Forms.{names-Column}
use Rattle.sa_table.specs.Table.{Table}
use Rattle.sa_query.specs.declared.group.Aggregate.{Aggregate}
use Rattle.sa_query.specs.declared.group.Column.{Column}
use Rattle.sa_query.specs.declared.item.Item.{Item}
use Rattle.sa_query.specs.declared.order.OrderKey.{OrderKey}
use Rattle.sa_query.specs.declared.query.Query.{Query}
use Rattle.sa_query.specs.declared.query.TableUse.{TableUse}
use Rattle.sa_query.specs.Kinds.{query_kinds}
use Rattle.sa_query.specs.Meaning.{does_group}
use Rattle.sa_query.specs.WellTyped.{HasColumn, IsInSight, IsFitExpr, IsFitCond, IsFitArgument, IsFitHaving, IsSelected, IsWellTyped}
use Rattle.sa_resolve.specs.Clauses.{Clauses, sources, select_scope, scope_of, item_reading, option_list, clauses_with, clauses_of, groups, column_at, column_of, group_columns, aggregates_of, slots_of}
use Rattle.sa_resolve.specs.Expression.{first, reading}
use Rattle.sa_resolve.specs.Faults.{is_selected}
use Rattle.sa_resolve.specs.Node.{Slots, kind_of}
use Rattle.sa_resolve.specs.NodeFaults.{is_condition}
use Rattle.sa_resolve.specs.Proper.{proper_node, is_proper_expr, IsProperExpr, IsProperItem, IsProperTree}
use Rattle.sa_resolve.specs.Reading.{Reading}
use Rattle.sa_resolve.specs.Resolved.{IsQueryOf, faults_of, query_of, query_with, query_item, order_key, first_cond, table_use}
use Rattle.sa_resolve.specs.Same.{same_aggregate, same_expr}
use Rattle.sa_resolve.specs.Selected.{Selected, items_at}
use Rattle.sa_resolve.specs.Sight.{source_of}
use Rattle.sa_resolve.specs.Tables.{over_rows}
use Rattle.sa_resolve.proofs.fit.Aggregating.{Read, group_of, order_of, met, option-has, items_kept, order_kept}
use Rattle.sa_resolve.proofs.fit.Calls.{without_calls}
use Rattle.sa_resolve.proofs.fit.Equal.{equal_expr}
use Rattle.sa_resolve.proofs.fit.Firsts.{firsts-has}
use Rattle.sa_resolve.proofs.fit.FitClauses.{items_sound, having_covered, order_covered, having_fits, order_fits, group_fits, slots_is}
use Rattle.sa_resolve.proofs.fit.FitFilter.{ons_ask, where_asks}
use Rattle.sa_resolve.proofs.fit.Fits.{IsCovered, IsFitting, InScope, Fits, IsSound}
use Rattle.sa_resolve.proofs.fit.Fixed.{over_groups, aggregates_in, slots-fixed}
use Rattle.sa_resolve.proofs.fit.Items.{OfValue}
use Rattle.sa_resolve.proofs.fit.Judged.{AreJudged, IsFilter, IsItem, IsGroupItem, IsHaving, IsOrderItem, judged}
use Rattle.sa_resolve.proofs.fit.Kept.{IsKept}
use Rattle.sa_resolve.proofs.fit.Lists.{none-map, each-left, each-right, each-append, each-map, each-mapped, each-weaker, each-of, each-in, each-both}
use Rattle.sa_resolve.proofs.fit.Parts.{proper_over}
use Rattle.sa_resolve.proofs.fit.Quiet.{groups_nothing, groups_is}
use Rattle.sa_resolve.proofs.fit.Sources.{tabled_at, uses_there, few}
use Rattle.sa_resolve.proofs.fit.Stands.{Stands, Asks, asks-And}

-- members that stand beside what is made of them
beside : {A B : Type 0} (P : A × B → Type 0) (f : A → B) (xs : List A)
    → AllByRecursion (λ x. P (x, f x)) xs → AllByRecursion P (zip xs (map f xs))
beside P f [] all = tt
beside P f (x ∷ xs) all = (all.0, beside P f xs all.1)

module _ (tables : List Table) (query : Query) (grouped : Bool) where
  fit_expr : (kind : ExprKind) (one : Expr) → Stands (IsInSight tables query grouped)
      (query_kinds tables query) kind one → is_proper kind ≡ true
      → IsFitExpr tables query grouped one
  fit_expr kind one stands proper = record {
    names = All-from_recursion (IsInSight tables query grouped) (expr_names one) stands.names;
    typed = ap is_proper stands.is ∙ proper;
  }

  fit_cond : (one : Cond) → Asks (IsInSight tables query grouped) (query_kinds tables query) one
      → IsFitCond tables query grouped one
  fit_cond one asks = record {
    names = All-from_recursion (IsInSight tables query grouped) (cond_names one) asks.names;
    typed = asks.typed;
  }

-- whether an expression is proper, by its node
proper-out : (value : ExprTree) → is_proper_expr value ≡ proper_node
    (proper_over is_proper_expr (out-ExprNode value.node))
proper-out value =
    fold_out-ExprTree Bool Bool proper_node (λ tree. tree.node) value ∙ fold_out-ExprNode Bool Bool
    proper_node (λ tree. tree.node) value.node

-- the column that an expression over rows is
module _ (tables : List Table) (query : Query) where
  abbrev Has : Column → Type 0
  Has one = HasColumn tables query.tables one.table one.column

  column_by : (row : Expr) (node : Expr-F Expr) → out-Expr row ≡ node
      → AllByRecursion (IsInSight tables query false) (expr_names row)
      → AllByRecursion Has (column_at node)
  column_by row (Expr-F.Column table number) is names =
      let one : row ≡ column_expr table number =
      sym (roll-out-Expr row) ∙ ap roll-Expr is ∙ rolls-Column table number in
      let named =
      subst (AllByRecursion (IsInSight tables query false))
      (ap expr_names one ∙ names-Column table number) names in
      (named.0, tt)
  column_by row node is names = tt

  having_by : (ones : List Reading)
      → AllByRecursion (λ (one : Reading). (does_group query ≡ true) × IsFitCond tables query true
      one.cond) ones
      → IsFitHaving tables query (first_cond ones)
  having_by [] all = tt
  having_by (one ∷ ones) all = all.0

module _ (tables : List Table) (tree : SelectTree) (slots : Option Slots)
    (fixed : slots_of (Read tables tree slots) ≡ slots)
    (ok : AreJudged tables tree (Read tables tree slots) (group_of tables tree slots)
    (order_of tables tree slots)) where
  abbrev Clause : Clauses
  Clause = Read tables tree slots

  abbrev Asked : Query
  Asked = query_with tables tree Clause

  abbrev AsksRows : Reading → Type 0
  AsksRows one = Asks (IsInSight tables Asked false) (query_kinds tables Asked) one.cond

  filters_ask : AllByRecursion AsksRows (Clause.on ++ Clause.filter)
  filters_ask =
      met IsFilter AsksRows (Clause.on ++ Clause.filter)
      (each-append (λ one. IsFilter one → AsksRows one) Clause.on Clause.filter
      (ons_ask tables tree Clause (tabled_at tables tree.from ok.from))
      (option-has (λ one. IsFilter one → AsksRows one)
      (reading tables (over_rows (sources tables tree))) tree.filter
      (λ value. where_asks tables tree Clause (tabled_at tables tree.from ok.from) value)))
      ok.filters

  -- The conditions over rows fit.
  pub filter_fits : IsFitCond tables (query_with tables tree (Read tables tree slots)) false
      (query_with tables tree (Read tables tree slots)).filter
  filter_fits =
      fit_cond tables Asked false Asked.filter
      (asks-And (IsInSight tables Asked false) (query_kinds tables Asked)
      (map (λ (one : Reading). one.cond) (Clause.on ++ Clause.filter))
      (each-map (Asks (IsInSight tables Asked false) (query_kinds tables Asked))
      (λ (one : Reading). one.cond) (Clause.on ++ Clause.filter) filters_ask))

  abbrev Group : Bool
  Group = does_group Asked

  fit_value : (kind : ExprKind) (one : Expr) → Stands (InScope tables Asked slots)
      (query_kinds tables Asked) kind one → is_proper kind ≡ true
      → IsFitExpr tables Asked Group one
  fit_value kind one stands proper =
      subst (λ grouped. IsFitExpr tables Asked grouped one) (slots_is tables tree slots fixed ok)
      (fit_expr tables Asked (is_some slots) kind one stands proper)

  fit_reading : (one : Reading) → Fits tables Asked slots one
      → IsCovered slots one.loose one.aggregates → is_condition one.sort ≡ false
      → IsFitExpr tables Asked Group one.expr
  fit_reading one fits covered valued =
      fit_value (kind_of one) one.expr (fits.in_query covered valued) (fits.is_proper valued)

  module _ (proper : AllByRecursion (λ (one : ItemTree). OfValue IsProperExpr one.item)
      tree.items) where
    sound : AllByRecursion (λ (one : Selected). IsSound tables Asked slots one.item) Clause.select
    sound = items_sound tables tree slots fixed ok proper

    -- The select list fits, if its values are proper.
    pub select_fits : All
        (λ (item : Item). IsFitExpr tables (query_with tables tree (Read tables tree slots))
        (does_group (query_with tables tree (Read tables tree slots))) item.value)
        (query_with tables tree (Read tables tree slots)).select
    select_fits =
        All-from_recursion (λ (item : Item). IsFitExpr tables Asked Group item.value) Asked.select
        (each-map (λ (item : Item). IsFitExpr tables Asked Group item.value) query_item
        Clause.select
        (each-weaker (λ (one : Selected). IsSound tables Asked slots one.item × IsItem Clause
        one.item) (λ (one : Selected). IsFitExpr tables Asked Group one.item.expr)
        (λ one both. fit_reading one.item both.0.fits both.0.covered both.1.valued) Clause.select
        (each-both (λ (one : Selected). IsSound tables Asked slots one.item)
        (λ (one : Selected). IsItem Clause one.item) Clause.select sound ok.select)))

    groups_fit : AllByRecursion (λ (one : GroupTree). IsProperExpr one.value) tree.group
        → All (λ (one : Column). HasColumn tables Asked.tables one.table one.column) Asked.group
    groups_fit proper_group =
        All-from_recursion (Has tables Asked) (group_columns Clause)
        (each-of (Has tables Asked) column_of Clause.group
        (each-map (λ (one : Reading). AllByRecursion (Has tables Asked) (column_of one))
        (group_of tables tree slots) tree.group
        (each-weaker
        (λ (one : GroupTree). Fits tables Asked slots (group_of tables tree slots one) × IsGroupItem
        Clause (group_of tables tree slots one))
        (λ (one : GroupTree). AllByRecursion (Has tables Asked)
        (column_of (group_of tables tree slots one)))
        (λ one both. column_by tables Asked (group_of tables tree slots one).row
        (out-Expr (group_of tables tree slots one).row) refl
        (both.0.over_rows both.1.uncalled both.1.valued (query_kinds tables Asked).slot).names)
        tree.group
        (each-both (λ (one : GroupTree). Fits tables Asked slots (group_of tables tree slots one))
        (λ (one : GroupTree). IsGroupItem Clause (group_of tables tree slots one)) tree.group
        (group_fits tables tree slots fixed ok proper proper_group) ok.group))))

    abbrev Fitting : Aggregate → Type 0
    Fitting = IsFitting tables Asked

    abbrev Fittings : Reading → Type 0
    Fittings one = AllByRecursion Fitting one.aggregates

    order_each : AllByRecursion (λ (one : OrderTree). IsProperExpr one.value) tree.order
        → AllByRecursion (Fits tables Asked slots) Clause.order
    order_each proper_order =
        each-map (Fits tables Asked slots) (order_of tables tree slots) tree.order
        (order_fits tables tree slots fixed ok proper proper_order)

    aggregates_fit : IfSome tree.having IsProperExpr
        → AllByRecursion (λ (one : OrderTree). IsProperExpr one.value) tree.order
        → All (λ (one : Aggregate). IsFitArgument tables Asked one.call one.argument)
        Asked.aggregates
    aggregates_fit proper_having proper_order =
        All-from_recursion Fitting (aggregates_of Clause)
        (firsts-has Fitting same_aggregate (flat_map aggregates_in (over_groups Clause))
        (each-of Fitting aggregates_in (over_groups Clause)
        (each-append Fittings (map (λ (one : Selected). one.item) Clause.select ++ Clause.having)
        Clause.order
        (each-append Fittings (map (λ (one : Selected). one.item) Clause.select) Clause.having
        (each-map Fittings (λ (one : Selected). one.item) Clause.select
        (each-weaker (λ (one : Selected). IsSound tables Asked slots one.item)
        (λ (one : Selected). Fittings one.item) (λ one sound. sound.fits.fitting) Clause.select
        sound))
        (each-weaker (Fits tables Asked slots) Fittings (λ one fits. fits.fitting) Clause.having
        (having_fits tables tree slots fixed ok proper proper_having)))
        (each-weaker (Fits tables Asked slots) Fittings (λ one fits. fits.fitting) Clause.order
        (order_each proper_order)))))

    having_fit : IfSome tree.having IsProperExpr → IsFitHaving tables Asked Asked.having
    having_fit proper_having =
        having_by tables Asked Clause.having
        (each-weaker
        (λ (one : Reading). (Fits tables Asked slots one × IsCovered slots one.loose one.aggregates)
        × IsHaving Clause one)
        (λ (one : Reading). (Group ≡ true) × IsFitCond tables Asked true one.cond)
        (λ one all.
        let grouped : Group ≡ true = sym (groups_is tables tree slots ok) ∙ all.1.groups in (
          grouped,
          subst (λ grouped. IsFitCond tables Asked grouped one.cond)
              (slots_is tables tree slots fixed ok ∙ grouped)
              (fit_cond tables Asked (is_some slots) one.cond (all.0.0.asks all.0.1)),
        )) Clause.having
        (each-both (λ (one : Reading). Fits tables Asked slots one × IsCovered slots one.loose
        one.aggregates) (IsHaving Clause) Clause.having
        (each-both (Fits tables Asked slots)
        (λ (one : Reading). IsCovered slots one.loose one.aggregates) Clause.having
        (having_fits tables tree slots fixed ok proper proper_having)
        (having_covered tables tree slots fixed ok)) ok.having))

    keys : (P : OrderKey → Type 0)
        → AllByRecursion (λ (one : OrderTree). P (order_key one (order_of tables tree slots one)))
        tree.order → All P Asked.order
    keys P each =
        All-from_recursion P Asked.order
        (each-map P (λ (pair : OrderTree × Reading). order_key pair.0 pair.1)
        (zip tree.order Clause.order)
        (beside (λ (pair : OrderTree × Reading). P (order_key pair.0 pair.1))
        (order_of tables tree slots) tree.order each))

    orders_fit : AllByRecursion (λ (one : OrderTree). IsProperExpr one.value) tree.order
        → All (λ (key : OrderKey). IsFitExpr tables Asked Group key.value) Asked.order
    orders_fit proper_order =
        keys (λ (key : OrderKey). IsFitExpr tables Asked Group key.value)
        (each-weaker
        (λ (one : OrderTree). (Fits tables Asked slots (order_of tables tree slots one) × IsCovered
        slots (order_of tables tree slots one).loose (order_of tables tree slots one).aggregates)
        × IsOrderItem Clause tree.distinct (order_of tables tree slots one))
        (λ (one : OrderTree). IsFitExpr tables Asked Group (order_of tables tree slots one).expr)
        (λ one all. fit_reading (order_of tables tree slots one) all.0.0 all.0.1 all.1.item.valued)
        tree.order
        (each-both
        (λ (one : OrderTree). Fits tables Asked slots (order_of tables tree slots one) × IsCovered
        slots (order_of tables tree slots one).loose (order_of tables tree slots one).aggregates)
        (λ (one : OrderTree). IsOrderItem Clause tree.distinct (order_of tables tree slots one))
        tree.order
        (each-both (λ (one : OrderTree). Fits tables Asked slots (order_of tables tree slots one))
        (λ (one : OrderTree). IsCovered slots (order_of tables tree slots one).loose
        (order_of tables tree slots one).aggregates) tree.order
        (order_fits tables tree slots fixed ok proper proper_order)
        (each-mapped (λ (one : Reading). IsCovered slots one.loose one.aggregates)
        (order_of tables tree slots) tree.order (order_covered tables tree slots fixed ok)))
        ok.order))

  selected_at : (one : Reading) → IsKept one → is_selected Clause one ≡ true
      → Any (λ (item : Item). item.value ≡ one.expr) Asked.select
  selected_at one kept is =
      let any =
      Any-from_list_any (λ (other : Selected). same_expr other.item.expr one.expr) Clause.select
      is in
      let k = any.0 in let other = any.1 in
      let here : IsKept other.item = subst (λ (other : Selected). IsKept other.item) any.3
      (All-from_recursion (λ (one : Selected). IsKept one.item) Clause.select
      (items_kept tables tree slots ok) k other any.2) in (
        k,
        query_item other,
        omega (arith, any.2, length-map Clause.select query_item),
        get_or-map query_item Clause.select k other (query_item other) any.2 ∙ ap query_item any.3,
        equal_expr other.item.expr one.expr any.4 here.expr kept.expr,
      )

  distinct_fits : Asked.distinct ≡ true → All (IsSelected tables Asked) Asked.order
  distinct_fits distinct =
      All-from_recursion (IsSelected tables Asked) Asked.order
      (each-map (IsSelected tables Asked) (λ (pair : OrderTree × Reading). order_key pair.0 pair.1)
      (zip tree.order Clause.order)
      (beside (λ (pair : OrderTree × Reading). IsSelected tables Asked (order_key pair.0 pair.1))
      (order_of tables tree slots) tree.order
      (each-weaker (λ (one : OrderTree). IsKept (order_of tables tree slots one) × IsOrderItem
      Clause tree.distinct (order_of tables tree slots one))
      (λ (one : OrderTree). IsSelected tables Asked
      (order_key one (order_of tables tree slots one)))
      (λ one both. selected_at (order_of tables tree slots one) both.0 (both.1.selected distinct))
      tree.order
      (each-both (λ (one : OrderTree). IsKept (order_of tables tree slots one))
      (λ (one : OrderTree). IsOrderItem Clause tree.distinct (order_of tables tree slots one))
      tree.order
      (each-mapped IsKept (order_of tables tree slots) tree.order (order_kept tables tree slots ok))
      ok.order))))

  of_item : (node : ItemNode) → IsProperItem node → OfValue IsProperExpr node
  of_item Star proper = tt
  of_item (TableStar table) proper = tt
  of_item (Value value alias) proper = proper

  proper_items : All (λ (one : ItemTree). IsProperItem one.item) tree.items
      → AllByRecursion (λ (one : ItemTree). OfValue IsProperExpr one.item) tree.items
  proper_items proper =
      each-weaker (λ (one : ItemTree). IsProperItem one.item)
      (λ (one : ItemTree). OfValue IsProperExpr one.item) (λ one. of_item one.item) tree.items
      (recursion_from_All (λ (one : ItemTree). IsProperItem one.item) tree.items proper)

  -- Whatever groups, the query is well-typed, if all that may call aggregates is proper.
  fit_with : 1 ≤ length tree.from
      → AllByRecursion (λ (one : ItemTree). OfValue IsProperExpr one.item) tree.items
      → AllByRecursion (λ (one : GroupTree). IsProperExpr one.value) tree.group
      → IfSome tree.having IsProperExpr
      → AllByRecursion (λ (one : OrderTree). IsProperExpr one.value) tree.order
      → IsWellTyped tables Asked
  fit_with some items group having order =
      let count : length (map table_use (sources tables tree)) ≡ length tree.from =
      length-map (sources tables tree) table_use ∙ length-map tree.from (source_of tables) in
      record {
        least = omega (arith, count, some);
        most = few tables tree.from ok.from;
        there = uses_there tables tree.from ok.from;
        filter = filter_fits;
        group = groups_fit items group;
        aggregates = aggregates_fit items having order;
        select = select_fits items;
        having = having_fit items having;
        order = orders_fit items order;
        distinct = distinct_fits;
      }

  pub all_fit : IsProperTree tree → IsWellTyped tables
      (query_with tables tree (Read tables tree slots))
  all_fit proper =
      fit_with proper.from (proper_items proper.items)
      (recursion_from_All (λ (one : GroupTree). IsProperExpr one.value) tree.group proper.group)
      proper.having
      (recursion_from_All (λ (one : OrderTree). IsProperExpr one.value) tree.order proper.order)

  -- Without calls an expression is proper.
  uncalled_item : (place : ℕ) (node : ItemNode)
      → AllByRecursion (λ (one : Selected). one.item.calls ≡ [])
      (items_at tables (select_scope tables tree slots) place node)
      → OfValue IsProperExpr node
  uncalled_item place Star none = tt
  uncalled_item place (TableStar table) none = tt
  uncalled_item place (Value value alias) none =
      (without_calls tables (select_scope tables tree slots) value none.0).is_proper

  abbrev Uncalled : Reading → Type 0
  Uncalled one = one.calls ≡ []

  abbrev Items : List Reading
  Items = map (λ (one : Selected). one.item) Clause.select

  module _ (none : groups Clause ≡ false) where
    uncalled : AllByRecursion Uncalled (over_groups Clause)
    uncalled = (groups_nothing tables tree slots ok none).uncalled

    uncalled_items : AllByRecursion (λ (one : ItemTree). OfValue IsProperExpr one.item) tree.items
    uncalled_items =
        each-weaker (λ (one : ItemTree). AllByRecursion (λ (one : Selected). Uncalled one.item)
        (items_at tables (select_scope tables tree slots) one.place one.item))
        (λ (one : ItemTree). OfValue IsProperExpr one.item)
        (λ one. uncalled_item one.place one.item) tree.items
        (each-in (λ (one : Selected). Uncalled one.item)
        (λ (one : ItemTree). items_at tables (select_scope tables tree slots) one.place one.item)
        tree.items
        (each-mapped Uncalled (λ (one : Selected). one.item) Clause.select
        (each-left Uncalled Items Clause.having
        (each-left Uncalled (Items ++ Clause.having) Clause.order uncalled))))

    value_by : (value : ExprTree) → Uncalled (item_reading tables tree slots first value)
        → (node : ExprNode-F ExprNode ExprTree) → out-ExprNode value.node ≡ node
        → IsProperExpr value
    value_by value none (ExprNode-F.Number number) is =
        proper-out value ∙ ap (λ node. proper_node (proper_over is_proper_expr node)) is
    value_by value none node is =
        (without_calls tables (scope_of tables tree slots first) value (rw is at none)).is_proper

    uncalled_order : AllByRecursion (λ (one : OrderTree). IsProperExpr one.value) tree.order
    uncalled_order =
        each-weaker (λ (one : OrderTree). Uncalled (order_of tables tree slots one))
        (λ (one : OrderTree). IsProperExpr one.value)
        (λ one none. value_by one.value none (out-ExprNode one.value.node) refl) tree.order
        (each-mapped Uncalled (order_of tables tree slots) tree.order
        (each-right Uncalled (Items ++ Clause.having) Clause.order uncalled))

    having_of : (found : Option ExprTree) → AllByRecursion Uncalled
        (option_list (reading tables (scope_of tables tree slots first)) found)
        → IfSome found IsProperExpr
    having_of None none = tt
    having_of (Some value) none =
        (without_calls tables (scope_of tables tree slots first) value none.0).is_proper

    uncalled_having : IfSome tree.having IsProperExpr
    uncalled_having =
        having_of tree.having
        (each-right Uncalled Items Clause.having
        (each-left Uncalled (Items ++ Clause.having) Clause.order uncalled))

    no_group : AllByRecursion (λ (one : GroupTree). IsProperExpr one.value) tree.group
    no_group =
        subst (AllByRecursion (λ (one : GroupTree). IsProperExpr one.value))
        (sym (none-map (group_of tables tree slots) tree.group
        (groups_nothing tables tree slots ok none).group)) tt

  -- A query that doesn't group is well-typed, if it has a table.
  pub rows_well_typed : does_group (query_with tables tree (Read tables tree slots)) ≡ false
      → 1 ≤ length (query_with tables tree (Read tables tree slots)).tables
      → IsWellTyped tables (query_with tables tree (Read tables tree slots))
  rows_well_typed does some =
      let none : groups Clause ≡ false = groups_is tables tree slots ok ∙ does in
      let count : length (map table_use (sources tables tree)) ≡ length tree.from =
      length-map (sources tables tree) table_use ∙ length-map tree.from (source_of tables) in
      fit_with (omega (arith, count, some)) (uncalled_items none) (no_group none)
      (uncalled_having none) (uncalled_order none)

  pub rows_fit : does_group (query_with tables tree (Read tables tree slots)) ≡ false
      → All (λ (item : Item). IsFitExpr tables (query_with tables tree (Read tables tree slots))
      false item.value) (query_with tables tree (Read tables tree slots)).select
  rows_fit none =
      subst (λ grouped. All (λ (item : Item). IsFitExpr tables Asked grouped item.value)
      Asked.select) none
      (select_fits (uncalled_items (groups_is tables tree slots ok ∙ none)))

  pub tables_there : All (λ (used : TableUse). used.table < length tables)
      (query_with tables tree (Read tables tree slots)).tables
  tables_there = uses_there tables tree.from ok.from

  pub tables_few : length (query_with tables tree (Read tables tree slots)).tables ≤ 8
  tables_few = few tables tree.from ok.from

-- A SELECT that has a query: what it is read with, and that nothing is wrong with it.
module _ (tables : List Table) (tree : SelectTree) where
  abbrev Given : Option Slots
  Given = slots_of (clauses_with tables tree None)

  abbrev Made : Query
  Made = query_with tables tree (Read tables tree Given)

  given_ok : faults_of tables tree ≡ [] → AreJudged tables tree (Read tables tree Given)
      (group_of tables tree Given) (order_of tables tree Given)
  unfolding faults_of clauses_of
  given_ok none =
      judged tables tree (Read tables tree Given) (group_of tables tree Given)
      (order_of tables tree Given) refl refl none

  made_is : query_of tables tree ≡ Made
  unfolding query_of clauses_of
  made_is = refl

  module _ (query : Query) (is : IsQueryOf tables tree query) where
    ok : AreJudged tables tree (Read tables tree Given) (group_of tables tree Given)
        (order_of tables tree Given)
    ok = given_ok is.faultless

    same : Made ≡ query
    same = sym (is.is ∙ made_is)

    pub well_typed : IsProperTree tree → IsWellTyped tables query
    well_typed proper =
        subst (IsWellTyped tables) same
        (all_fit tables tree Given (slots-fixed tables tree Given) ok proper)

    pub filter_is_fit : IsFitCond tables query false query.filter
    filter_is_fit =
        subst (λ query. IsFitCond tables query false query.filter) same
        (filter_fits tables tree Given (slots-fixed tables tree Given) ok)

    pub select_is_fit : does_group query ≡ false
        → All (λ (item : Item). IsFitExpr tables query false item.value) query.select
    select_is_fit =
        subst (λ query. does_group query ≡ false
        → All (λ (item : Item). IsFitExpr tables query false item.value) query.select) same
        (rows_fit tables tree Given (slots-fixed tables tree Given) ok)

    pub rows_are_fit : does_group query ≡ false → 1 ≤ length query.tables → IsWellTyped tables query
    rows_are_fit =
        subst (λ (query : Query). does_group query ≡ false → 1 ≤ length query.tables
        → IsWellTyped tables query) same
        (rows_well_typed tables tree Given (slots-fixed tables tree Given) ok)

    pub tables_are_there : All (λ (used : TableUse). used.table < length tables) query.tables
    tables_are_there =
        subst (λ (query : Query). All (λ (used : TableUse). used.table < length tables)
        query.tables) same (tables_there tables tree Given (slots-fixed tables tree Given) ok)

    pub tables_are_few : length query.tables ≤ 8
    tables_are_few =
        subst (λ (query : Query). length query.tables ≤ 8) same
        (tables_few tables tree Given (slots-fixed tables tree Given) ok)
