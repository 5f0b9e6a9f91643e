-- The items of GROUP BY and ORDER BY as they are read, and the items that the select list is built as.
use Rattle.std.proofs.Common.{◌≡◌, ℕ, Bool, ◌||◌, List, [], ◌∷◌, map, Option, Some, None, append-nil, refl, sym, ap, ◌∙◌}
use Rattle.std.specs.List.{list_any}
use Rattle.sa_ast.specs.declared.expression.ExprTree.{ExprTree}
use Rattle.sa_ast.specs.declared.select.OrderTree.{OrderTree}
use Rattle.sa_ast.specs.declared.select.SelectTree.{SelectTree}
use Rattle.sa_table.specs.Table.{Table}
use Rattle.sa_cond.specs.declared.expr.Expr.{Expr}
use Rattle.sa_query.specs.declared.group.Aggregate.{Aggregate}
use Rattle.sa_query.specs.declared.item.Item.{Item}
use Rattle.sa_resolve.specs.declared.look.Looked.{Looked}
use Rattle.sa_resolve.specs.Clauses.{item_reading, items, positioned, scope_of}
use Rattle.sa_resolve.specs.Expression.{Seeks, first}
use Rattle.sa_resolve.specs.Node.{Slots}
use Rattle.sa_resolve.specs.Resolved.{query_item}
use Rattle.sa_resolve.specs.Same.{same_expr}
use Rattle.sa_resolve.specs.Selected.{Selected}
use Rattle.sa_resolve.specs.inner.Building.{placed}
use Rattle.sa_resolve.specs.inner.Gist.{gist_at, gist_of}
use Rattle.sa_resolve.specs.inner.Looking.{LooksUp, loose_at}

module _ (tables : List Table) (tree : SelectTree) (slots : Option Slots) where
  pub placed_is : (seeks : Seeks) (value : ExprTree)
      → placed tables (scope_of tables tree slots seeks) (items tables tree slots) value ≡ item_reading tables tree slots seeks value
  placed_is seeks value = refl

  pub placed_all : (trees : List OrderTree)
      → map (λ (one : OrderTree). item_reading tables tree slots first one.value) trees
      ≡ map (λ (one : OrderTree). placed tables (scope_of tables tree slots first) (items tables tree slots) one.value) trees
  placed_all trees = refl

-- a position mentions nothing
pub position_looked : (before after : List Aggregate) (looked : Looked) (place : ℕ) (one : Option Selected)
    → gist_at looked.facts ≡ gist_of (positioned place one) → looked.loose.items ≡ [] → looked.literals.items ≡ []
    → after ≡ before → LooksUp before after looked (positioned place one)
position_looked before after looked place None gist loose literals same = record {
  looked_is = record { gist = gist; loose = ap loose_at loose; literals = literals };
  aggregates = same ∙ sym (append-nil before);
}
position_looked before after looked place (Some one) gist loose literals same = record {
  looked_is = record { gist = gist; loose = ap loose_at loose; literals = literals };
  aggregates = same ∙ sym (append-nil before);
}

-- the values of the items that are built
pub values_are : (selected : List Selected) (items : List Item) → items ≡ map query_item selected
    → map (λ (item : Item). item.value) items ≡ map (λ (one : Selected). one.item.expr) selected
values_are selected made is = ap (map (λ (item : Item). item.value)) is ∙ of_items selected
  where
    of_items : (selected : List Selected)
        → map (λ (item : Item). item.value) (map query_item selected) ≡ map (λ (one : Selected). one.item.expr) selected
    of_items [] = refl
    of_items (one ∷ selected) = ap (λ (rest : List Expr). one.item.expr ∷ rest) (of_items selected)

-- whether one of them is the same tree as a value
pub any_item : (value : Expr) (selected : List Selected) (items : List Item) → map query_item selected ≡ items
    → list_any (λ (item : Item). same_expr item.value value) items ≡ list_any (λ (other : Selected). same_expr other.item.expr value) selected
any_item value selected made is = ap (list_any (λ (item : Item). same_expr item.value value)) (sym is) ∙ of_items selected
  where
    of_items : (selected : List Selected)
        → list_any (λ (item : Item). same_expr item.value value) (map query_item selected)
        ≡ list_any (λ (other : Selected). same_expr other.item.expr value) selected
    of_items [] = refl
    of_items (one ∷ selected) = ap (λ (rest : Bool). same_expr one.item.expr value || rest) (of_items selected)
