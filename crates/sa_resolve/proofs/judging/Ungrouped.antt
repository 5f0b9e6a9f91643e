-- A SELECT that doesn't group has no slots.
use Rattle.std.proofs.Common.{◌≡◌, ◌⊎◌, inl, inr, ℕ, ℤ, Bool, true, false, not, ◌||◌, List, [], ◌∷◌, ◌++◌, map, Option, Some, None, if◌then◌else◌, refl, sym, ap, subst, ◌∙◌}
use Rattle.std.specs.List.{enumerate_from, flat_map, list_any}
use Rattle.sa_ast.specs.declared.expression.ExprNode.{ExprNode, ExprNode-F, out-ExprNode, out-roll-ExprNode, roll-ExprNode, roll-out-ExprNode}
use Rattle.sa_ast.specs.declared.expression.ExprNode.TheVariants as node
use Rattle.sa_ast.specs.declared.expression.ExprTree.{ExprTree}
use Rattle.sa_ast.specs.declared.select.ItemNode.{ItemNode}
use Rattle.sa_ast.specs.declared.select.ItemNode.TheVariants.{Star, TableStar, Value}
use Rattle.sa_ast.specs.declared.select.ItemTree.{ItemTree}
use Rattle.sa_ast.specs.declared.select.OrderTree.{OrderTree}
use Rattle.sa_ast.specs.declared.select.SelectTree.{SelectTree}
use Rattle.sa_table.specs.declared.def.ColumnDef.{ColumnDef}
use Rattle.sa_table.specs.Table.{Table}
use Rattle.sa_query.specs.declared.group.Aggregate.{Aggregate}
use Rattle.sa_query.specs.declared.group.Column.{Column}
use Rattle.sa_query.specs.Groups.{firsts}
use Rattle.sa_query.specs.Meaning.{is_empty}
use Rattle.sa_resolve.specs.Clauses.{Clauses, aggregates_of, all_readings, clauses_with, column_of, group_columns, groups, item_at, item_reading, items, option_list, positioned, scope_of, select_scope, slots_of}
use Rattle.sa_resolve.specs.Expression.{Scope, Seeks, first, reading}
use Rattle.sa_resolve.specs.Node.{Slots}
use Rattle.sa_resolve.specs.Reading.{Reading}
use Rattle.sa_resolve.specs.Same.{same_aggregate}
use Rattle.sa_resolve.specs.Selected.{Selected, column_item, items_at, selected, star_of}
use Rattle.sa_resolve.specs.Sight.{Source, as_list, columns_of, source_named}
use Rattle.sa_resolve.specs.inner.Judging.{has_calls, parts_of}
use Rattle.sa_resolve.proofs.judging.Calls.{any_in_all, list_any-append}
use Rattle.sa_resolve.proofs.judging.Quiets.{AreQuiet, IsQuiet, quiet_all, quiet_tree}
use Rattle.sa_resolve.proofs.walk.Placed.{placed-Number, placed-other}

quiet-append : (ones others : List Reading) → AreQuiet ones → AreQuiet others → AreQuiet (ones ++ others)
quiet-append [] others are also = also
quiet-append (one ∷ ones) others are also = (are.0, quiet-append ones others are.1 also)

abbrev item_of : Selected → Reading
item_of one = one.item

quiet-items_append : (ones others : List Selected) → AreQuiet (map item_of ones) → AreQuiet (map item_of others) → AreQuiet (map item_of (ones ++ others))
quiet-items_append [] others are also = also
quiet-items_append (one ∷ ones) others are also = (are.0, quiet-items_append ones others are.1 also)

module _ (tables : List Table) (scope : Scope) where
  quiet-columns : (place number : ℕ) (columns : List (ℕ × ColumnDef)) → AreQuiet (map item_of (map (column_item tables scope place number) columns))
  quiet-columns place number [] = tt
  quiet-columns place number (column ∷ columns) = (λ empty. refl, quiet-columns place number columns)

  quiet-stars : (place : ℕ) (sources : List (ℕ × Source)) → AreQuiet (map item_of (flat_map (star_of tables scope place) sources))
  quiet-stars place [] = tt
  quiet-stars place (source ∷ sources) =
      quiet-items_append (star_of tables scope place source) (flat_map (star_of tables scope place) sources)
      (quiet-columns place source.0 (enumerate_from 0 (columns_of tables source.1))) (quiet-stars place sources)

  quiet-item : (place : ℕ) (item : ItemNode) → AreQuiet (map item_of (items_at tables scope place item))
  quiet-item place Star = quiet-stars place (enumerate_from 0 scope.sources)
  quiet-item place (TableStar table) = quiet-stars place (as_list (source_named scope.sources table.name))
  quiet-item place (Value tree alias) = (quiet_tree tables scope tree, tt)

  quiet-selected : (trees : List ItemTree) → AreQuiet (map item_of (selected tables scope trees))
  quiet-selected [] = tt
  quiet-selected (tree ∷ trees) =
      quiet-items_append (items_at tables scope tree.place tree.item) (selected tables scope trees)
      (quiet-item tree.place tree.item) (quiet-selected trees)

  quiet-option : (tree : Option ExprTree) → AreQuiet (option_list (reading tables scope) tree)
  quiet-option None = tt
  quiet-option (Some tree) = (quiet_tree tables scope tree, tt)

quiet-position : (place : ℕ) (one : Option Selected) → IsQuiet (positioned place one)
quiet-position place None = λ empty. refl
quiet-position place (Some one) = λ empty. refl

abbrev IsNumber : ExprNode → Type 0
IsNumber at = (number : ℤ) × (at ≡ node.Number number)

which : (at : ExprNode) (layer : ExprNode-F ExprNode ExprTree) → roll-ExprNode layer ≡ at → out-ExprNode at ≡ layer
    → IsNumber at ⊎ ((number : ℤ) → at ≡ node.Number number → ⊥)
which at (ExprNode-F.Number number) rolls is = inl (number, sym rolls ∙ node.rolls-Number number)
which at layer rolls is = inr (λ number same.
    let out : out-ExprNode at ≡ ExprNode-F.Number number = ap out-ExprNode (same ∙ sym (node.rolls-Number number)) ∙ out-roll-ExprNode (ExprNode-F.Number number) in cc)

module _ (tables : List Table) (tree : SelectTree) (slots : Option Slots) where
  quiet-key : (seeks : Seeks) (value : ExprTree) → IsQuiet (item_reading tables tree slots seeks value)
  quiet-key seeks value = by_kind (which value.node (out-ExprNode value.node) (roll-out-ExprNode value.node) refl)
    where
      by_kind : IsNumber value.node ⊎ ((number : ℤ) → value.node ≡ node.Number number → ⊥) → IsQuiet (item_reading tables tree slots seeks value)
      by_kind (inl number) =
          subst IsQuiet (sym (placed-Number tables (scope_of tables tree slots seeks) (items tables tree slots) value number.0 number.1))
          (quiet-position value.place (item_at (items tables tree slots) number.0))
      by_kind (inr other) =
          subst IsQuiet (sym (placed-other tables (scope_of tables tree slots seeks) (items tables tree slots) value other))
          (quiet_tree tables (scope_of tables tree slots seeks) value)

  quiet-keys : (trees : List OrderTree) → AreQuiet (map (λ (one : OrderTree). item_reading tables tree slots first one.value) trees)
  quiet-keys [] = tt
  quiet-keys (one ∷ trees) = (quiet-key first one.value, quiet-keys trees)

  quiet-answer : AreQuiet (map item_of (clauses_with tables tree slots).select ++ (clauses_with tables tree slots).having ++ (clauses_with tables tree slots).order)
  quiet-answer =
      quiet-append (map item_of (clauses_with tables tree slots).select ++ (clauses_with tables tree slots).having) (clauses_with tables tree slots).order
      (quiet-append (map item_of (clauses_with tables tree slots).select) (clauses_with tables tree slots).having
      (quiet-selected tables (select_scope tables tree slots) tree.items) (quiet-option tables (scope_of tables tree slots first) tree.having))
      (quiet-keys tree.order)

first_calls : (one : Reading) (ones : List Reading) (calls : List ℕ) → one.calls ≡ calls → list_any has_calls (one ∷ ones) ≡ false
    → (list_any has_calls ones ≡ false → flat_map (λ (one : Reading). one.calls) ones ≡ [])
    → flat_map (λ (one : Reading). one.calls) (one ∷ ones) ≡ []
first_calls one ones [] same is more =
    let rest : list_any has_calls ones ≡ false = ap (λ (calls : List ℕ). not (is_empty calls) || list_any has_calls ones) (sym same) ∙ is in
    ap (λ (calls : List ℕ). calls ++ flat_map (λ (one : Reading). one.calls) ones) same ∙ more rest
first_calls one ones (call ∷ calls) same is more =
    let no : true ≡ false = ap (λ (calls : List ℕ). not (is_empty calls) || list_any has_calls ones) (sym same) ∙ is in cc

-- readings of which none has calls
no_calls : (ones : List Reading) → list_any has_calls ones ≡ false → flat_map (λ (one : Reading). one.calls) ones ≡ []
no_calls [] is = refl
no_calls (one ∷ ones) is = first_calls one ones one.calls refl is (no_calls ones)

either_false : (a b : Bool) → (a || b) ≡ false → (a ≡ false) × (b ≡ false)
either_false true b is = let no : true ≡ false = is in cc
either_false false b is = (refl, is)

module _ (clauses : Clauses) (are : AreQuiet (map item_of clauses.select ++ clauses.having ++ clauses.order)) (alone : groups clauses ≡ false) where
  no_group : clauses.group ≡ []
  no_group = by_group clauses.group (either_false (not (is_empty clauses.group)) (list_any has_calls (all_readings clauses)) alone).0
    where
      by_group : (group : List Reading) → not (is_empty group) ≡ false → group ≡ []
      by_group [] is = refl
      by_group (one ∷ group) is = let no : true ≡ false = is in cc

  none_answers : list_any has_calls (map item_of clauses.select ++ clauses.having ++ clauses.order) ≡ false
  none_answers =
      let all : list_any has_calls (all_readings clauses) ≡ false = (either_false (not (is_empty clauses.group)) (list_any has_calls (all_readings clauses)) alone).1 in
      let parts = sym (any_in_all clauses.on clauses.filter (map item_of clauses.select) clauses.group clauses.having clauses.order) ∙ all in
      let last = either_false (((list_any has_calls (clauses.on ++ clauses.filter) || list_any has_calls (map item_of clauses.select)) || list_any has_calls clauses.group) || list_any has_calls clauses.having)
      (list_any has_calls clauses.order) parts in
      let having = either_false ((list_any has_calls (clauses.on ++ clauses.filter) || list_any has_calls (map item_of clauses.select)) || list_any has_calls clauses.group)
      (list_any has_calls clauses.having) last.0 in
      let group = either_false (list_any has_calls (clauses.on ++ clauses.filter) || list_any has_calls (map item_of clauses.select)) (list_any has_calls clauses.group) having.0 in
      let select = either_false (list_any has_calls (clauses.on ++ clauses.filter)) (list_any has_calls (map item_of clauses.select)) group.0 in
      list_any-append has_calls (map item_of clauses.select ++ clauses.having) clauses.order
      ∙ ap (λ (first : Bool). first || list_any has_calls clauses.order) (list_any-append has_calls (map item_of clauses.select) clauses.having)
      ∙ ap (λ (select : Bool). (select || list_any has_calls clauses.having) || list_any has_calls clauses.order) select.1
      ∙ ap (λ (having : Bool). having || list_any has_calls clauses.order) having.1
      ∙ last.1

  none_grouped : group_columns clauses ≡ []
  none_grouped = ap (flat_map column_of) no_group

  none_aggregated : aggregates_of clauses ≡ []
  none_aggregated =
      ap (firsts same_aggregate) (quiet_all (map item_of clauses.select ++ clauses.having ++ clauses.order) are
      (no_calls (map item_of clauses.select ++ clauses.having ++ clauses.order) none_answers))

pair_of : (group : List Column) (aggregates : List Aggregate) → group ≡ [] → aggregates ≡ [] → parts_of None ≡ (group, aggregates)
pair_of group aggregates group_is aggregates_is = rw (group_is, aggregates_is) refl

-- the GROUP BY columns and the aggregates are those of the slots
pub parts_are : (tables : List Table) (tree : SelectTree) (found : Option Slots) → slots_of (clauses_with tables tree found) ≡ found
    → parts_of found ≡ (group_columns (clauses_with tables tree found), aggregates_of (clauses_with tables tree found))
parts_are tables tree found settled = ap parts_of (sym settled) ∙ by_groups (groups (clauses_with tables tree found)) refl
  where
    by_groups : (grouped : Bool) → groups (clauses_with tables tree found) ≡ grouped
        → parts_of (slots_of (clauses_with tables tree found)) ≡ (group_columns (clauses_with tables tree found), aggregates_of (clauses_with tables tree found))
    by_groups true is =
        ap (λ (grouped : Bool). parts_of (if grouped
        then Some (record { group = group_columns (clauses_with tables tree found); aggregates = aggregates_of (clauses_with tables tree found) }) else None)) is
    by_groups false is =
        ap (λ (grouped : Bool). parts_of (if grouped
        then Some (record { group = group_columns (clauses_with tables tree found); aggregates = aggregates_of (clauses_with tables tree found) }) else None)) is
        ∙ pair_of (group_columns (clauses_with tables tree found)) (aggregates_of (clauses_with tables tree found))
        (none_grouped (clauses_with tables tree found) (quiet-answer tables tree found) is)
        (none_aggregated (clauses_with tables tree found) (quiet-answer tables tree found) is)
