-- The items of a query, part by part.
use Rattle.std.proofs.Common.{◌≡◌, ℕ, ◌+◌, ◌<◌, List, [], ◌∷◌, ◌++◌, map, length, take, get_or, option_map, refl, sym, ap, ◌∙◌}
use Rattle.std.proofs.lemmas.List.{append_assoc, map-append, map_more}
use Rattle.sa_ast.specs.declared.select.ItemTree.{ItemTree}
use Rattle.sa_cond.specs.declared.expr.Expr.{Expr}
use Rattle.sa_table.specs.Table.{Table}
use Rattle.sa_query.specs.declared.group.Column.{Column}
use Rattle.sa_query.specs.declared.item.Item.{Item}
use Rattle.sa_resolve.specs.declared.build.Stage.{Stage}
use Rattle.sa_resolve.specs.declared.build.Stage.TheVariants as stages
use Rattle.sa_resolve.specs.declared.select.Run.{Run}
use Rattle.sa_resolve.specs.declared.select.Valued.{Valued}
use Rattle.sa_resolve.specs.declared.sight.Sight.{Sight}
use Rattle.sa_resolve.specs.Expression.{Scope, column_reading, reading}
use Rattle.sa_resolve.specs.Reading.{Reading}
use Rattle.sa_resolve.specs.Resolved.{query_item}
use Rattle.sa_resolve.specs.Selected.{Selected, item_name, selected}
use Rattle.sa_resolve.specs.inner.Building.{IsLast, IsStage, built}
use Rattle.sa_resolve.specs.inner.Listing.{IsRun, IsValued, columns_in, star_item, starred}
use Rattle.sa_resolve.proofs.list.Enumerated.{map-map}
use Rattle.sa_resolve.proofs.list.Parts.{items_of, selected_push}

pub last_stage : (scope : Scope) (listed : List Selected) (stage : Stage) → IsLast scope listed stage
    → IsStage scope listed stage
last_stage scope listed stages.Rows is = absurd is
last_stage scope listed (stages.Answer slots items) is = is

pub last_built : (scope : Scope) (listed : List Selected) (stage : Stage) → IsLast scope listed stage
    → (one : Reading)
    → built stage one ≡ one.expr
last_built scope listed stages.Rows is one = absurd is
last_built scope listed (stages.Answer slots items) is one = refl

item_made : (name : List ℕ) (value : Expr) → Item
item_made name value = record { name = name; value = value }

module _ (tables : List Table) (scope : Scope) (sight : Sight) where
  -- the item that a column of a star is
  pub star_made : (place : ℕ) (stage : Stage) → IsLast scope [] stage
      → (column : Column) (name : List ℕ) (value : Expr)
      → name ≡ (starred tables scope sight place column).name
      → value ≡ built stage (column_reading tables scope place column)
      → ◌≡◌ {A = Item} (record { name = name; value = value }) (star_item tables scope sight place column)
  unfolding item_made
  star_made place stage last column name value name_is value_is =
      ap (λ name. item_made name value) name_is
      ∙ ap (item_made (starred tables scope sight place column).name)
      (value_is ∙ last_built scope [] stage last (column_reading tables scope place column))

  -- the item that an expression is
  pub value_made : (valued : Valued) (one : Selected) → IsValued tables scope sight valued one
      → (stage : Stage) → IsLast scope [] stage → (name : List ℕ) (value : Expr)
      → name ≡ item_name valued.tree.now (option_map (λ tree. tree.now) valued.alias)
      → value ≡ built stage (reading tables scope valued.tree.now)
      → ◌≡◌ {A = Item} (record { name = name; value = value }) (query_item one)
  unfolding item_made
  value_made valued one is stage last name value name_is value_is =
      ap (λ name. item_made name value) (name_is ∙ sym is.name)
      ∙ ap (item_made one.name) (value_is ∙ last_built scope [] stage last
      (reading tables scope valued.tree.now)
      ∙ ap (λ (reading : Reading). reading.expr) (sym is.item))

  -- the items of a star
  pub star_items : (place : ℕ) (run : Run) (items : List Selected) → IsRun tables scope sight place run items
      → map (star_item tables scope sight place) (columns_in sight run) ≡ map query_item items
  star_items place run items is =
      sym (map-map query_item (starred tables scope sight place) (columns_in sight run))
      ∙ ap (map query_item) (sym is.items_are)

  -- a column of a star more
  pub columns_put : (place : ℕ) (columns : List Column) (i : ℕ) (d : Column) (first before after : List Item)
      (item : Item) → i < length columns
      → before ≡ first ++ map (star_item tables scope sight place) (take i columns)
      → item ≡ star_item tables scope sight place (get_or columns i d) → after ≡ before ++ item ∷ []
      → after ≡ first ++ map (star_item tables scope sight place) (take (i + 1) columns)
  columns_put place columns i d first before after item there so_far item_is more =
      more
      ∙ ap (λ all. all ++ item ∷ []) so_far
      ∙ append_assoc first (map (star_item tables scope sight place) (take i columns)) (item ∷ [])
      ∙ ap (λ item. first ++ (map (star_item tables scope sight place) (take i columns) ++ item ∷ [])) item_is
      ∙ ap (λ rest. first ++ rest) (sym (map_more (star_item tables scope sight place) columns i d there))

  -- a part more
  pub items_put : (trees : List ItemTree) (index : ℕ) (tree : ItemTree) (before after : List Item)
      → take (index + 1) trees ≡ take index trees ++ tree ∷ []
      → before ≡ map query_item (selected tables scope (take index trees))
      → after ≡ before ++ map query_item (items_of tables scope sight tree)
      → after ≡ map query_item (selected tables scope (take (index + 1) trees))
  items_put trees index tree before after taken so_far more =
      more
      ∙ ap (λ all. all ++ map query_item (items_of tables scope sight tree)) so_far
      ∙ sym (map-append query_item (selected tables scope (take index trees))
      (items_of tables scope sight tree))
      ∙ ap (map query_item) (sym (selected_push tables scope sight (take index trees) tree))
      ∙ ap (λ trees. map query_item (selected tables scope trees)) (sym taken)
