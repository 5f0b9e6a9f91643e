-- What is known of a name or a position that stands for a select item.
use Rattle.std.proofs.Common.{◌≡◌, ℕ, List, [], ◌∷◌, Option, Some, None, option_map, refl, sym, ap, ◌∙◌}
use Rattle.std.proofs.lemmas.Option.{none-some, same_Some}
use Rattle.sa_value.specs.declared.value.Value.TheVariants.{Null}
use Rattle.sa_cond.specs.declared.expr.Expr.TheVariants.{outs-Literal}
use Rattle.sa_cond.specs.Interval.{faulty}
use Rattle.sa_query.specs.declared.refusal.ResolveKind.TheVariants.{UnknownColumn}
use Rattle.sa_resolve.specs.Clauses.{column_at, positioned}
use Rattle.sa_resolve.specs.Fault.{fault_at}
use Rattle.sa_resolve.specs.Reading.{Reading, faulty_name, named, one_call, value}
use Rattle.sa_resolve.specs.Selected.{Selected}
use Rattle.sa_resolve.specs.inner.Gist.{Gist, first, gist_of, plain_gist}
use Rattle.sa_resolve.specs.inner.Least.{nearer, nearest}

some_place : (place call : ℕ) (other : Option ℕ) → Some place
    ≡ option_map (λ _. place) (nearer (Some call) other)
some_place place call None = refl
some_place place call (Some other) = refl

place_of_call : (place : ℕ) (calls : List ℕ) → nearest (one_call place calls)
    ≡ option_map (λ _. place) (nearest calls)
place_of_call place [] = refl
place_of_call place (call ∷ calls) = some_place place call (nearest calls)

abbrev pub gist_named : ℕ → Gist → Gist
gist_named place gist = record gist {
  place = place;
  sums = place;
  call = option_map (λ _. place) gist.call;
  fault = None;
}

pub named_is : (place : ℕ) (item : Reading) → gist_named place (gist_of item) ≡ gist_of (named place item)
named_is place item =
    ap (λ call. record (gist_named place (gist_of item)) { call = call })
    (sym (place_of_call place item.calls))

-- A position at which an item is, and one at which there is none.
pub found_there : (place : ℕ) (found : Option Selected) (known : Gist)
    → Some known ≡ option_map (λ (one : Selected). gist_of one.item) found
    → gist_named place known ≡ gist_of (positioned place found)
found_there place None known is = absurd (none-some known (sym is))
found_there place (Some one) known is =
    ap (gist_named place) (same_Some known (gist_of one.item) is) ∙ named_is place one.item

pub none_there : (place : ℕ) (found : Option Selected) → None
    ≡ option_map (λ (one : Selected). gist_of one.item) found
    → found ≡ None
none_there place None is = refl
none_there place (Some one) is = absurd (none-some (gist_of one.item) is)

pub wrong_there : (place : ℕ) (gist : Gist)
    → gist ≡ record (plain_gist place (value faulty)) { fault = Some (fault_at UnknownColumn place) }
    → gist ≡ gist_of (faulty_name UnknownColumn place)
wrong_there place gist is =
    is ∙ ap (λ layer. record (plain_gist place (value faulty)) {
      fault = Some (fault_at UnknownColumn place);
      column = first (column_at layer);
    })
    (sym (outs-Literal Null))
