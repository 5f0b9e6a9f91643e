-- What a part of a select list is, and what is known of its items.
use Rattle.std.proofs.Common.{◌≡◌, ℕ, List, [], ◌∷◌, ◌++◌, map, length, Some, option_map, refl, sym, ap, ◌∙◌}
use Rattle.std.proofs.lemmas.List.{append-nil}
use Rattle.std.proofs.lemmas.Option.{same_Some, slice_get-map}
use Rattle.std.specs.List.{slice_get}
use Rattle.sa_ast.specs.declared.select.ItemTree.{ItemTree}
use Rattle.sa_table.specs.Table.{Table}
use Rattle.sa_query.specs.declared.group.Aggregate.{Aggregate}
use Rattle.sa_query.specs.declared.group.Column.{Column}
use Rattle.sa_cond.specs.declared.expr.Expr.TheVariants.{outs-Column}
use Rattle.sa_cond.specs.Interval.{ExprKind}
use Rattle.sa_resolve.specs.Clauses.{column_at}
use Rattle.sa_resolve.specs.declared.select.Chosen.{Chosen}
use Rattle.sa_resolve.specs.declared.select.Chosen.TheVariants.{Columns, Value}
use Rattle.sa_resolve.specs.declared.select.Run.{Run}
use Rattle.sa_resolve.specs.declared.select.Valued.{Valued}
use Rattle.sa_resolve.specs.declared.sight.Sight.{Sight}
use Rattle.sa_resolve.specs.Expression.{Scope, column_kind, column_reading}
use Rattle.sa_resolve.specs.Reading.{value}
use Rattle.sa_resolve.specs.Selected.{Selected, items_at}
use Rattle.sa_resolve.specs.inner.Gist.{Gist, first, gist_of, plain_gist}
use Rattle.sa_resolve.specs.inner.Listing.{Chooses, IsChosen, IsRun, IsValued, aggregates_of, columns_in, size_of, starred}
use Rattle.sa_resolve.specs.inner.Meanings.{kind_by}

module _ (tables : List Table) (scope : Scope) (sight : Sight) where
  no_aggregates : (place : ℕ) (columns : List Column) → aggregates_of
      (map (starred tables scope sight place) columns) ≡ []
  no_aggregates place [] = refl
  no_aggregates place (column ∷ columns) = no_aggregates place columns

  -- a star mentions no aggregate
  pub star_chosen : (before : List Aggregate) (tree : ItemTree) (run : Run)
      → IsRun tables scope sight tree.place run (items_at tables scope tree.place tree.item)
      → Chooses tables scope sight before before tree (Columns run)
  star_chosen before tree run is = record {
    items = is;
    aggregates =
        sym (append-nil before)
        ∙ ap (λ more. before ++ more) (sym (ap aggregates_of is.items_are
        ∙ no_aggregates tree.place (columns_in sight run)));
  }

  -- as many items as the part says
  pub chosen_length : (place : ℕ) (chosen : Chosen) (items : List Selected)
      → IsChosen tables scope sight place chosen items
      → length items ≡ size_of chosen
  chosen_length place (Columns run) items is = sym is.count
  chosen_length place (Value valued) (one ∷ []) is = refl
  chosen_length place (Value valued) [] is = absurd is
  chosen_length place (Value valued) (one ∷ other ∷ others) is = absurd is

  -- A part that is an expression has one item.
  pub record HasItem (place : ℕ) (valued : Valued) (items : List Selected) : Type 0 where
    pub item : Selected
    pub items_are : items ≡ item ∷ []
    pub place_is : item.place ≡ place
    pub is : IsValued tables scope sight valued item

  pub one_item : (place : ℕ) (valued : Valued) (items : List Selected)
      → IsChosen tables scope sight place (Value valued) items
      → HasItem place valued items
  one_item place valued (one ∷ []) is = record { item = one; items_are = refl; place_is = is.0; is = is.1 }
  one_item place valued [] is = absurd is
  one_item place valued (one ∷ other ∷ others) is = absurd is

  column_gist : (place : ℕ) (column : Column) → gist_of (column_reading tables scope place column)
      ≡ record (plain_gist place (value (column_kind tables scope.sources column))) { column = Some column }
  column_gist place column =
      ap (λ layer. record (plain_gist place (value (column_kind tables scope.sources column)))
      { column = first (column_at layer) })
      (outs-Column column.table column.column)

  -- what is known of a column of a star
  pub column_known : (place : ℕ) (run : Run) (items : List Selected)
      → IsRun tables scope sight place run items
      → (offset : ℕ) (column : Column) (kind : ExprKind) (gist : Gist)
      → slice_get (columns_in sight run) offset ≡ Some column
      → kind ≡ kind_by sight column
      → (at : ℕ) → at ≡ place → gist ≡ record (plain_gist at (value kind)) { column = Some column }
      → Some gist ≡ option_map (λ (one : Selected). gist_of one.item) (slice_get items offset)
  column_known place run items is offset column kind gist there kind_is at at_is gist_is =
      let kinds : Some (kind_by sight column) ≡ Some (column_kind tables scope.sources column) =
      ap (option_map (kind_by sight)) (sym there)
      ∙ sym (slice_get-map (kind_by sight) (columns_in sight run) offset)
      ∙ ap (λ all. slice_get all offset) is.kinds
      ∙ slice_get-map (column_kind tables scope.sources) (columns_in sight run) offset
      ∙ ap (option_map (column_kind tables scope.sources)) there in
      ap (λ gist. Some gist) (gist_is ∙ ap (λ at. record (plain_gist at (value kind))
      { column = Some column }) at_is
      ∙ ap (λ (kind : ExprKind). record (plain_gist place (value kind)) { column = Some column })
      (kind_is ∙ same_Some (kind_by sight column) (column_kind tables scope.sources column) kinds)
      ∙ sym (column_gist place column))
      ∙ ap (option_map (λ (one : Selected). gist_of one.item)) (sym
      (ap (λ all. slice_get all offset) is.items_are
      ∙ slice_get-map (starred tables scope sight place) (columns_in sight run) offset
      ∙ ap (option_map (starred tables scope sight place)) there))
