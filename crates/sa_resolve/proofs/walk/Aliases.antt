-- What stands for an item of the select list, by its place in the list.
use Rattle.std.proofs.Common.{◌≡◌, ℕ, List, map, Option, Some, None, option_map, slice_get, refl, sym, ap, subst, ◌∙◌}
use Rattle.std.proofs.lemmas.Option.{slice_get-map}
use Rattle.sa_cond.specs.declared.expr.Expr.{Expr}
use Rattle.sa_query.specs.declared.item.Item.{Item}
use Rattle.sa_resolve.specs.declared.alias.Alias.{Alias as Kept}
use Rattle.sa_resolve.specs.declared.build.Stage.{Stage}
use Rattle.sa_resolve.specs.declared.build.Stage.TheVariants as stages
use Rattle.sa_resolve.specs.Expression.{Scope}
use Rattle.sa_resolve.specs.Reading.{Reading, no_expr}
use Rattle.sa_resolve.specs.Selected.{Selected}
use Rattle.sa_resolve.specs.inner.Building.{IsStage, built}
use Rattle.sa_resolve.specs.inner.Meanings.{IsAlias}
use Rattle.sa_resolve.specs.inner.Walking.{value_or}

-- the value at a place of the list, by what the list has there
abbrev pub selected_expr : Option Selected → Expr
selected_expr None = no_expr
selected_expr (Some one) = one.item.expr

value_is : (one : Option Item) (other : Option Selected)
    → option_map (λ (item : Item). item.value) one ≡ option_map (λ (one : Selected). one.item.expr) other
    → value_or one ≡ selected_expr other
value_is None None is = refl
value_is None (Some other) is = (cc)
value_is (Some one) None is = (cc)
value_is (Some one) (Some other) is = (cc)

pub value_at : (items : List Item) (listed : List Selected) (number : ℕ)
    → map (λ (item : Item). item.value) items ≡ map (λ (one : Selected). one.item.expr) listed
    → value_or (slice_get items number) ≡ selected_expr (slice_get listed number)
value_at items listed number are =
    value_is (slice_get items number) (slice_get listed number)
    (sym (slice_get-map (λ (item : Item). item.value) items number)
    ∙ ap (λ (values : List Expr). slice_get values number) are
    ∙ slice_get-map (λ (one : Selected). one.item.expr) listed number)

item_is : (one : Option Selected) (item : Reading)
    → option_map (λ (other : Selected). other.item) one ≡ Some item → selected_expr one ≡ item.expr
item_is None item is = (cc)
item_is (Some one) item is =
    let same : one.item ≡ item = (cc) in ap (λ (one : Reading). one.expr) same

module _ (scope : Scope) (listed : List Selected) (kept : Kept) (item : Reading)
    (alias : IsAlias listed kept item) where
  abbrev Is : Stage → Type 0
  Is stage = IsStage scope listed stage

  pub alias-answer : (stage : Stage) (slots : _) (items : _) → stage ≡ stages.Answer slots items
      → IsStage scope listed stage
      → value_or (slice_get items.now kept.item) ≡ built stage item
  alias-answer stage slots items is at =
      let answered = subst Is is at in
      value_at items.now listed kept.item answered.items_are
      ∙ item_is (slice_get listed kept.item) item alias.listed_is
      ∙ ap (λ stage. built stage item) (sym is)
