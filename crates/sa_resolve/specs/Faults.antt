-- All that is wrong with a SELECT, sentence by sentence.
-- Source: MariaDB Knowledge Base, "SELECT", "GROUP BY" and "Identifier Qualifiers"; the limits are this project's.
use Rattle.std.specs.Prelude.{ℕ, Bool, not, ◌&&◌, ◌||◌, List, [], ◌∷◌, ◌++◌, map, slice_get, Option, Some, None, if◌then◌else◌}
use Rattle.std.specs.List.{flat_map, list_any, zip}
use Rattle.sa_ast.specs.declared.select.GroupTree.{GroupTree}
use Rattle.sa_ast.specs.declared.select.ItemTree.{ItemTree}
use Rattle.sa_ast.specs.declared.select.OrderTree.{OrderTree}
use Rattle.sa_ast.specs.declared.select.SelectTree.{SelectTree}
use Rattle.sa_table.specs.Table.{Table}
use Rattle.sa_query.specs.declared.refusal.ResolveKind.{ResolveKind}
use Rattle.sa_query.specs.declared.refusal.ResolveKind.TheVariants.{GroupRule, TooManyItems, TooManyConstants}
use Rattle.sa_query.specs.Meaning.{is_empty}
use Rattle.sa_resolve.specs.Clauses.{Clauses, sources, groups, group_columns, column_of}
use Rattle.sa_resolve.specs.Fault.{Fault, fault_at, told}
use Rattle.sa_resolve.specs.NodeFaults.{no_value, no_condition}
use Rattle.sa_resolve.specs.Reading.{Reading}
use Rattle.sa_resolve.specs.Same.{same_column, same_expr}
use Rattle.sa_resolve.specs.Selected.{Selected, star_faults}
use Rattle.sa_resolve.specs.Tables.{from_faults, over_rows}

-- An aggregate may not stand here: it is told at its name.
abbrev pub no_aggregates : Reading → List Fault
no_aggregates one = map (fault_at GroupRule) one.calls

-- WHERE and ON are conditions without aggregates.
abbrev pub filter_faults : Reading → List Fault
filter_faults one = one.faults ++ no_condition one ++ no_aggregates one

-- of more places than a limit allows the first too many
abbrev pub too_many : ResolveKind → (limit : ℕ) → List ℕ → List Fault
too_many kind limit places = told_at (slice_get places limit)
  where
    told_at : Option ℕ → List Fault
    told_at None = []
    told_at (Some place) = fault_at kind place ∷ []

-- The 1,025th number, text or NULL of ON and WHERE is one too many.
abbrev pub constant_faults : Clauses → List Fault
constant_faults clauses =
    too_many TooManyConstants 1024
    (flat_map (λ (one : Reading). one.literals) (clauses.on ++ clauses.filter))

module _ (clauses : Clauses) where
  -- Where a SELECT groups, a column outside aggregates has to be one of GROUP BY.
  abbrev pub loose_faults : Reading → List Fault
  loose_faults one =
      if groups clauses
      then flat_map
      (λ placed. told (not (list_any (same_column placed.1) (group_columns clauses)))
      GroupRule placed.0) one.loose
      else []

  -- The items of the select list are values, and 64 at most.
  abbrev pub select_faults : List Fault
  select_faults =
      flat_map (λ (one : Selected). one.item.faults ++ no_value one.item ++ loose_faults one.item)
      clauses.select
      ++ too_many TooManyItems 64 (map (λ (one : Selected). one.place) clauses.select)

  -- An item of GROUP BY is a column, and nothing else.
  abbrev pub group_item_faults : GroupTree × Reading → List Fault
  group_item_faults (tree, one) =
      one.faults ++ no_value one ++ no_aggregates one
      ++ told (is_empty (column_of one)) GroupRule tree.place

  abbrev pub group_faults : List GroupTree → List Fault
  group_faults trees =
      flat_map group_item_faults (zip trees clauses.group)
      ++ too_many TooManyItems 8 (map (λ (tree : GroupTree). tree.place) trees)

  -- HAVING is a condition, in a SELECT that groups.
  abbrev pub having_faults : (place : ℕ) → List Fault
  having_faults place =
      flat_map
      (λ one. one.faults ++ no_condition one ++ loose_faults one
      ++ told (not (groups clauses)) GroupRule place) clauses.having

  -- what is wrong with an item of ORDER BY in itself
  abbrev pub own_faults : Reading → List Fault
  own_faults one = one.faults ++ no_value one ++ loose_faults one

  abbrev pub is_selected : Reading → Bool
  is_selected one =
      list_any (λ (other : Selected). same_expr other.item.expr one.expr) clauses.select

  -- With DISTINCT an item of ORDER BY is right, and where the select list is right too it is one
  -- of that.
  abbrev pub distinct_faults : (is_right : Bool) → OrderTree × Reading → List Fault
  distinct_faults is_right (tree, one) =
      told (not (is_empty (own_faults one)) || (is_right && not (is_selected one)))
      GroupRule tree.place

  -- The items of ORDER BY are values.
  abbrev pub order_item_faults : (distinct is_right : Bool) → OrderTree × Reading → List Fault
  order_item_faults distinct is_right (tree, one) =
      own_faults one ++ (if distinct then distinct_faults is_right (tree, one) else [])

  abbrev pub order_faults : (distinct is_right : Bool) → List OrderTree → List Fault
  order_faults distinct is_right trees =
      flat_map (order_item_faults distinct is_right) (zip trees clauses.order)
      ++ too_many TooManyItems 8 (map (λ (tree : OrderTree). tree.place) trees)

-- the select list
abbrev pub list_faults : List Table → SelectTree → Clauses → List Fault
list_faults tables tree clauses =
    flat_map
    (λ (item : ItemTree). star_faults tables (over_rows (sources tables tree)) item.item) tree.items
    ++ select_faults clauses

-- all of them
abbrev pub faults_with : List Table → SelectTree → Clauses → List Fault
faults_with tables tree clauses =
    from_faults tables tree.from
    ++ flat_map filter_faults (clauses.on ++ clauses.filter)
    ++ constant_faults clauses
    ++ list_faults tables tree clauses
    ++ group_faults clauses tree.group
    ++ having_faults clauses tree.having_place
    ++ order_faults clauses tree.distinct (is_empty (list_faults tables tree clauses)) tree.order
