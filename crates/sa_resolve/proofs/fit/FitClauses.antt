-- The clauses of a SELECT without faults fit, if its trees are proper.
use Rattle.std.proofs.Common.{◌≡◌, ℕ, Bool, true, false, not, List, [], ◌∷◌, ◌++◌, map, flat_map, Option, Some, None, is_some, if◌then◌else◌, refl, sym, ap, ◌∙◌, subst}
use Rattle.std.specs.List.{AllByRecursion, list_any}
use Rattle.std.specs.Option.{IfSome}
use Rattle.std.proofs.lemmas.Bool.{not-false}
use Rattle.sa_ast.specs.declared.expression.ExprTree.{ExprTree}
use Rattle.sa_ast.specs.declared.select.GroupTree.{GroupTree}
use Rattle.sa_ast.specs.declared.select.ItemTree.{ItemTree}
use Rattle.sa_ast.specs.declared.select.OrderTree.{OrderTree}
use Rattle.sa_ast.specs.declared.select.SelectTree.{SelectTree}
use Rattle.sa_table.specs.Table.{Table}
use Rattle.sa_query.specs.declared.group.Aggregate.{Aggregate}
use Rattle.sa_query.specs.declared.group.Column.{Column}
use Rattle.sa_query.specs.declared.query.Query.{Query}
use Rattle.sa_query.specs.declared.refusal.ResolveKind.TheVariants.{GroupRule}
use Rattle.sa_query.specs.Meaning.{does_group}
use Rattle.sa_resolve.specs.Clauses.{Clauses, sources, select_scope, scope_of, item_reading, option_list, groups, group_columns, aggregates_of, slots_of}
use Rattle.sa_resolve.specs.Expression.{Alias, Seeks, never, first, last, reading}
use Rattle.sa_resolve.specs.Fault.{told}
use Rattle.sa_resolve.specs.Faults.{loose_faults}
use Rattle.sa_resolve.specs.Node.{Slots}
use Rattle.sa_resolve.specs.Proper.{IsProperExpr}
use Rattle.sa_resolve.specs.Reading.{Reading}
use Rattle.sa_resolve.specs.Resolved.{query_with}
use Rattle.sa_resolve.specs.Same.{same_column}
use Rattle.sa_resolve.specs.Selected.{Selected, aliases_of}
use Rattle.sa_resolve.proofs.fit.Aggregating.{Read, group_of, order_of, met, IsFound, aggregates_plain, aggregates_found}
use Rattle.sa_resolve.proofs.fit.Fixed.{over_groups}
use Rattle.sa_resolve.proofs.fit.FitNodes.{fit_column, fit_named, fit-reading}
use Rattle.sa_resolve.proofs.fit.Fits.{IsGrouped, IsSlotted, IsCovered, Fits, IsSound, Knows}
use Rattle.sa_resolve.proofs.fit.Items.{OfValue, items_have, aliases_have, item_has}
use Rattle.sa_resolve.proofs.fit.Judged.{AreJudged, IsItem, IsGroupItem, IsHaving, IsOrderItem}
use Rattle.sa_resolve.proofs.fit.Lists.{each-left, each-right, each-map, each-mapped, each-weaker, each-always, each-both, none-in, untold}
use Rattle.sa_resolve.proofs.fit.Quiet.{groups_nothing, groups_is}
use Rattle.sa_resolve.proofs.fit.Slotted.{knows_either}
use Rattle.sa_resolve.proofs.fit.Sources.{front_itself, tabled_at}

option-met : {A B : Type 0} (P : A → Type 0) (Q : B → Type 0) (f : A → B) (found : Option A)
    → IfSome found P → ((x : A) → P x → Q (f x))
    → AllByRecursion Q (option_list f found)
option-met P Q f None has give = tt
option-met P Q f (Some x) has give = (give x has, tt)

module _ (tables : List Table) (tree : SelectTree) (slots : Option Slots)
    (fixed : slots_of (Read tables tree slots) ≡ slots)
    (ok : AreJudged tables tree (Read tables tree slots) (group_of tables tree slots)
    (order_of tables tree slots)) where
  abbrev Clause : Clauses
  Clause = Read tables tree slots

  abbrev Asked : Query
  Asked = query_with tables tree Clause

  abbrev Fit : Reading → Type 0
  Fit = Fits tables Asked slots

  abbrev Sound : Reading → Type 0
  Sound = IsSound tables Asked slots

  abbrev Covered : Reading → Type 0
  Covered one = IsCovered slots one.loose one.aggregates

  abbrev Groups : Option Slots
  Groups = Some (record { group = group_columns Clause; aggregates = aggregates_of Clause })

  abbrev Found : Aggregate → Type 0
  Found = IsFound tables tree slots ok

  knows : (aliases : List Alias) (seeks : Seeks)
      → AllByRecursion (λ (alias : Alias). Sound alias.item) aliases
      → Knows tables Asked
      (record { sources = sources tables tree; aliases = aliases; seeks = seeks; slots = slots })
  knows aliases seeks =
      subst (λ slots'. AllByRecursion (λ (alias : Alias). IsSound tables Asked slots' alias.item)
      aliases
      → Knows tables Asked
      (record { sources = sources tables tree; aliases = aliases; seeks = seeks; slots = slots' }))
      fixed
      (knows_either tables tree Clause (tabled_at tables tree.from ok.from) (groups Clause)
      (aggregates_plain tables tree slots ok) (sources tables tree) aliases seeks
      (front_itself (sources tables tree)))

  covered_by : (grouped : Bool) (loose : List (ℕ × Column)) (aggregates : List Aggregate)
      → (if grouped then flat_map
      (λ (placed : ℕ × Column). told (not (list_any (same_column placed.1) (group_columns Clause)))
      GroupRule placed.0) loose else []) ≡ []
      → AllByRecursion Found aggregates → (grouped ≡ false → aggregates ≡ [])
      → IsCovered (if grouped then Groups else None) loose aggregates
  covered_by true loose aggregates none found quiet = record {
    grouped =
        each-weaker
        (λ (placed : ℕ × Column). told
        (not (list_any (same_column placed.1) (group_columns Clause))) GroupRule placed.0 ≡ [])
        (λ (placed : ℕ × Column). IsGrouped Groups placed.1)
        (λ placed none. not-false (list_any (same_column placed.1) (group_columns Clause))
        (untold (not (list_any (same_column placed.1) (group_columns Clause))) GroupRule placed.0
        none)) loose
        (none-in
        (λ (placed : ℕ × Column). told
        (not (list_any (same_column placed.1) (group_columns Clause))) GroupRule placed.0) loose
        none);
    slotted =
        each-weaker Found (IsSlotted Groups) (λ one found. (found.found, found.plain)) aggregates
        found;
  }
  covered_by false loose aggregates none found quiet = record {
    grouped = each-always (λ (placed : ℕ × Column). IsGrouped None placed.1) (λ placed. tt) loose;
    slotted = subst (AllByRecursion (IsSlotted None)) (sym (quiet refl)) tt;
  }

  covered_one : (one : Reading) → loose_faults Clause one ≡ [] → AllByRecursion Found one.aggregates
      → (groups Clause ≡ false → one.aggregates ≡ []) → Covered one
  covered_one one none found quiet =
      subst (λ slots. IsCovered slots one.loose one.aggregates) fixed
      (covered_by (groups Clause) one.loose one.aggregates none found quiet)

  covered_all : (ones : List Reading) → AllByRecursion (λ (one : Reading). loose_faults Clause one
      ≡ []) ones
      → AllByRecursion (λ (one : Reading). AllByRecursion Found one.aggregates) ones
      → (groups Clause ≡ false → AllByRecursion (λ (one : Reading). one.aggregates ≡ []) ones)
      → AllByRecursion Covered ones
  covered_all [] none found quiet = tt
  covered_all (one ∷ ones) none found quiet = (
    covered_one one none.0 found.0 (λ groups. (quiet groups).0),
    covered_all ones none.1 found.1
        (λ groups. (quiet groups).1),
  )

  abbrev Items : List Reading
  Items = map (λ (one : Selected). one.item) Clause.select

  abbrev Founds : Reading → Type 0
  Founds one = AllByRecursion Found one.aggregates

  abbrev Bare : Reading → Type 0
  Bare one = one.aggregates ≡ []

  all_found : AllByRecursion Founds (over_groups Clause)
  all_found = aggregates_found tables tree slots ok

  all_bare : groups Clause ≡ false → AllByRecursion Bare (over_groups Clause)
  all_bare none = (groups_nothing tables tree slots ok none).none

  items_covered : AllByRecursion (λ (one : Selected). Covered one.item) Clause.select
  items_covered =
      each-mapped Covered (λ (one : Selected). one.item) Clause.select
      (covered_all Items
      (each-map (λ (one : Reading). loose_faults Clause one ≡ []) (λ (one : Selected). one.item)
      Clause.select
      (each-weaker (λ (one : Selected). IsItem Clause one.item)
      (λ (one : Selected). loose_faults Clause one.item ≡ []) (λ one item. item.loose) Clause.select
      ok.select))
      (each-left Founds Items Clause.having
      (each-left Founds (Items ++ Clause.having) Clause.order all_found))
      (λ none. each-left Bare Items Clause.having
      (each-left Bare (Items ++ Clause.having) Clause.order (all_bare none))))

  pub having_covered : AllByRecursion (λ (one : Reading). IsCovered slots one.loose one.aggregates)
      Clause.having
  having_covered =
      covered_all Clause.having
      (each-weaker (IsHaving Clause) (λ (one : Reading). loose_faults Clause one ≡ [])
      (λ one having. having.loose) Clause.having ok.having)
      (each-right Founds Items Clause.having
      (each-left Founds (Items ++ Clause.having) Clause.order all_found))
      (λ none. each-right Bare Items Clause.having
      (each-left Bare (Items ++ Clause.having) Clause.order (all_bare none)))

  pub order_covered : AllByRecursion (λ (one : Reading). IsCovered slots one.loose one.aggregates)
      Clause.order
  order_covered =
      covered_all Clause.order
      (each-map (λ (one : Reading). loose_faults Clause one ≡ []) (order_of tables tree slots)
      tree.order
      (each-weaker (λ (one : OrderTree). IsOrderItem Clause tree.distinct
      (order_of tables tree slots one))
      (λ (one : OrderTree). loose_faults Clause (order_of tables tree slots one) ≡ [])
      (λ one order. order.item.loose) tree.order ok.order))
      (each-right Founds (Items ++ Clause.having) Clause.order all_found)
      (λ none. each-right Bare (Items ++ Clause.having) Clause.order (all_bare none))

  -- The select list fits, if its values are proper.
  module _ (proper : AllByRecursion (λ (one : ItemTree). OfValue IsProperExpr one.item)
      tree.items) where
    items_fit : AllByRecursion (λ (one : Selected). Fit one.item) Clause.select
    items_fit =
        met (λ (one : Selected). one.item.faults ≡ []) (λ (one : Selected). Fit one.item)
        Clause.select
        (items_have tables (select_scope tables tree slots) (λ one. one.faults ≡ [] → Fit one)
        IsProperExpr
        (λ place column seen none. fit_column tables Asked (select_scope tables tree slots)
        (knows [] never tt) place column seen)
        (λ value proper none. fit-reading tables Asked (select_scope tables tree slots)
        (knows [] never tt) value proper none) tree.items proper)
        (each-weaker (λ (one : Selected). IsItem Clause one.item)
        (λ (one : Selected). one.item.faults ≡ []) (λ one item. item.faultless) Clause.select
        ok.select)

    pub items_sound : AllByRecursion (λ (one : Selected). IsSound tables Asked slots one.item)
        Clause.select
    items_sound =
        each-weaker (λ (one : Selected). Fit one.item × Covered one.item)
        (λ (one : Selected). Sound one.item)
        (λ one both. record { fits = both.0; covered = both.1 }) Clause.select
        (each-both (λ (one : Selected). Fit one.item) (λ (one : Selected). Covered one.item)
        Clause.select items_fit items_covered)

    aliases_sound : AllByRecursion (λ (alias : Alias). Sound alias.item) (aliases_of Clause.select)
    aliases_sound = aliases_have Sound Clause.select items_sound

    knows_of : (seeks : Seeks) → Knows tables Asked (scope_of tables tree slots seeks)
    knows_of seeks = knows (aliases_of Clause.select) seeks aliases_sound

    item_fits : (seeks : Seeks) (value : ExprTree) → IsProperExpr value
        → (item_reading tables tree slots seeks value).faults ≡ []
        → Fit (item_reading tables tree slots seeks value)
    item_fits seeks value =
        item_has tables tree slots seeks (λ one. one.faults ≡ [] → Fit one) Sound IsProperExpr
        (λ kind place none. cc)
        (λ place one sound none. fit_named tables Asked (scope_of tables tree slots seeks)
        (knows_of seeks) place one sound)
        (λ value proper none. fit-reading tables Asked (scope_of tables tree slots seeks)
        (knows_of seeks) value proper none) items_sound value

    pub having_fits : IfSome tree.having IsProperExpr → AllByRecursion (Fits tables Asked slots)
        Clause.having
    having_fits proper_having =
        met (λ (one : Reading). one.faults ≡ []) Fit Clause.having
        (option-met IsProperExpr (λ one. one.faults ≡ [] → Fit one)
        (reading tables (scope_of tables tree slots first)) tree.having proper_having
        (λ value proper none. fit-reading tables Asked (scope_of tables tree slots first)
        (knows_of first) value proper none))
        (each-weaker (IsHaving Clause) (λ (one : Reading). one.faults ≡ [])
        (λ one having. having.faultless) Clause.having ok.having)

    pub order_fits : AllByRecursion (λ (one : OrderTree). IsProperExpr one.value) tree.order
        → AllByRecursion
        (λ (one : OrderTree). Fits tables Asked slots (order_of tables tree slots one)) tree.order
    order_fits proper_order =
        each-weaker (λ (one : OrderTree). IsProperExpr one.value × IsOrderItem Clause tree.distinct
        (order_of tables tree slots one))
        (λ (one : OrderTree). Fit (order_of tables tree slots one))
        (λ one both. item_fits first one.value both.0 both.1.item.faultless) tree.order
        (each-both (λ (one : OrderTree). IsProperExpr one.value)
        (λ (one : OrderTree). IsOrderItem Clause tree.distinct (order_of tables tree slots one))
        tree.order proper_order ok.order)

    pub group_fits : AllByRecursion (λ (one : GroupTree). IsProperExpr one.value) tree.group
        → AllByRecursion
        (λ (one : GroupTree). Fits tables Asked slots (group_of tables tree slots one)) tree.group
    group_fits proper_group =
        each-weaker (λ (one : GroupTree). IsProperExpr one.value × IsGroupItem Clause
        (group_of tables tree slots one))
        (λ (one : GroupTree). Fit (group_of tables tree slots one))
        (λ one both. item_fits last one.value both.0 both.1.faultless) tree.group
        (each-both (λ (one : GroupTree). IsProperExpr one.value)
        (λ (one : GroupTree). IsGroupItem Clause (group_of tables tree slots one)) tree.group
        proper_group ok.group)

  some_by : (grouped : Bool) → is_some (if grouped then Groups else None) ≡ grouped
  some_by true = refl
  some_by false = refl

  -- There are slots exactly where the query groups.
  pub slots_is : is_some slots ≡ does_group Asked
  slots_is = ap is_some (sym fixed) ∙ some_by (groups Clause) ∙ groups_is tables tree slots ok
