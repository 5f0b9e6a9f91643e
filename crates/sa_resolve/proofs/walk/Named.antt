-- A name stands for no condition, where the select list has values alone.
use Rattle.std.proofs.Common.{◌≡◌, ℕ, List, Option, Some, None, option_map, slice_get, refl, sym, ap, ◌∙◌}
use Rattle.sa_table.specs.Table.{Table}
use Rattle.sa_query.specs.declared.group.Column.{Column}
use Rattle.sa_resolve.specs.declared.alias.Alias.{Alias as Kept}
use Rattle.sa_resolve.specs.declared.scope.Scope.{Scope as View}
use Rattle.sa_resolve.specs.declared.scope.Seeks.{Seeks as Order}
use Rattle.sa_resolve.specs.declared.scope.Seeks.TheVariants as orders
use Rattle.sa_resolve.specs.declared.sight.Lookup.{Lookup}
use Rattle.sa_resolve.specs.declared.sight.Lookup.TheVariants.{One, Nothing, Several}
use Rattle.sa_resolve.specs.Expression.{Alias, Scope, aliases_named, by_alias, by_column, name_reading, plain_reading, unless_none}
use Rattle.sa_query.specs.declared.refusal.ResolveKind.TheVariants.{UnknownColumn}
use Rattle.sa_resolve.specs.Reading.{Reading, faulty_name, no_cond}
use Rattle.sa_resolve.specs.Selected.{Selected}
use Rattle.sa_resolve.specs.Sight.{Found, one, none, several, plain, qualified}
use Rattle.sa_resolve.specs.inner.Names.{AreSought, IsFound, Sees}
use Rattle.sa_resolve.specs.inner.Walking.{AreValues}
use Rattle.sa_resolve.proofs.walk.Values.{column_cond}

-- an item of the list stands for no condition
item_cond : (found : Option Selected) (item : Reading)
    → ((other : Selected) → found ≡ Some other → other.item.cond ≡ no_cond)
    → option_map (λ (other : Selected). other.item) found ≡ Some item → item.cond ≡ no_cond
item_cond None item value is = (cc)
item_cond (Some other) item value is =
    let same : other.item ≡ item = (cc) in
    ap (λ (item : Reading). item.cond) (sym same) ∙ value other refl

module _ (tables : List Table) (scope : Scope) (listed : List Selected) (values : AreValues listed)
    (place : ℕ) where
  alias_cond : (kept : Option (Lookup Kept)) (found : Found Alias) (other : Reading) → other.cond ≡ no_cond
      → IsFound listed kept found → (by_alias tables scope place other found).cond ≡ no_cond
  alias_cond None none other is at = is
  alias_cond None (one alias) other is at = absurd at
  alias_cond None several other is at = absurd at
  alias_cond (Some (One kept)) (one alias) other is at =
      item_cond (slice_get listed kept.item) alias.item (values kept.item) at.listed_is
  alias_cond (Some (One kept)) none other is at = absurd at
  alias_cond (Some (One kept)) several other is at = absurd at
  alias_cond (Some Several) (one alias) other is at = absurd at
  alias_cond (Some Several) none other is at = absurd at
  alias_cond (Some Several) several other is at = refl
  alias_cond (Some Nothing) (one alias) other is at = absurd at
  alias_cond (Some Nothing) none other is at = absurd at
  alias_cond (Some Nothing) several other is at = absurd at

  unless_cond : (other : Reading) (found : Found Column) → other.cond ≡ no_cond
      → (unless_none tables scope place other found).cond ≡ no_cond
  unless_cond other none is = is
  unless_cond other (one column) is = refl
  unless_cond other several is = refl

  plain_cond : (order : Order) (name : List ℕ) → AreSought listed scope order
      → (plain_reading tables scope scope.seeks place name).cond ≡ no_cond
  plain_cond orders.Never name sought =
      ap (λ seeks. (plain_reading tables scope seeks place name).cond) sought
      ∙ column_cond tables scope place (plain tables scope.sources name)
  plain_cond (orders.First kept) name sought =
      ap (λ seeks. (plain_reading tables scope seeks place name).cond) sought.0
      ∙ alias_cond _ (aliases_named tables scope name)
      (by_column tables scope place (plain tables scope.sources name))
      (column_cond tables scope place (plain tables scope.sources name)) (sought.1 name)
  plain_cond (orders.Last kept) name sought =
      ap (λ seeks. (plain_reading tables scope seeks place name).cond) sought.0
      ∙ unless_cond (by_alias tables scope place (faulty_name UnknownColumn place)
      (aliases_named tables scope name))
      (plain tables scope.sources name)
      (alias_cond _ (aliases_named tables scope name) (faulty_name UnknownColumn place) refl (sought.1 name))

  pub name_cond : (view : View) (table : Option (List ℕ)) (name : List ℕ) → Sees tables scope listed view
      → (name_reading tables scope place table name).cond ≡ no_cond
  name_cond view None name sees = plain_cond view.seeks name sees.sought
  name_cond view (Some alias) name sees = column_cond tables scope place
      (qualified tables scope.sources alias name)
