-- What is kept of a name, by what it stands for.
use Rattle.std.proofs.Common.{◌≡◌, ℕ, List, [], ◌∷◌, ◌++◌, Option, Some, None, option_map, append-nil, refl, sym, ap, subst, ◌∙◌}
use Rattle.std.proofs.lemmas.List.{map_push}
use Rattle.sa_value.specs.declared.value.Value.TheVariants.{Null}
use Rattle.sa_cond.specs.declared.expr.Expr.{the_lemmas}
use Rattle.sa_cond.specs.declared.expr.Expr.TheVariants as exprs
use Rattle.sa_cond.specs.Interval.{ExprKind, faulty}
use Rattle.sa_table.specs.Table.{Table}
use Rattle.sa_query.specs.declared.group.Column.{Column}
use Rattle.sa_query.specs.declared.refusal.ResolveKind.{ResolveKind}
use Rattle.sa_resolve.specs.declared.alias.Alias.{Alias as Kept}
use Rattle.sa_resolve.specs.declared.facts.Facts.{Facts}
use Rattle.sa_resolve.specs.declared.mentions.Loose.{Loose}
use Rattle.sa_resolve.specs.declared.mentions.Mentions.{Mentions}
use Rattle.sa_resolve.specs.declared.scope.Meaning.{Meaning}
use Rattle.sa_resolve.specs.declared.scope.Meaning.TheVariants as meanings
use Rattle.sa_resolve.specs.declared.sight.Sight.{Sight}
use Rattle.sa_resolve.specs.Expression.{Scope, column_kind, column_reading}
use Rattle.sa_resolve.specs.Fault.{fault_at}
use Rattle.sa_resolve.specs.Reading.{Reading, value, faulty_name, named, one_call}
use Rattle.sa_resolve.specs.Selected.{Selected}
use Rattle.sa_resolve.specs.inner.Gist.{Gist, gist_at, gist_of, plain_gist}
use Rattle.sa_resolve.specs.inner.Least.{nearer, nearest}
use Rattle.sa_resolve.specs.inner.Looking.{HasLooked, loose_at}
use Rattle.sa_resolve.specs.inner.Meanings.{IsColumn, IsItem, Stands, kind_by}
use Rattle.sa_resolve.proofs.NodeGists.{column_in, literal_column}
use Rattle.sa_resolve.proofs.walk.Leaves.{nothing_more}

column_is : (column : Column) → column_in (exprs.Column column.table column.column) ≡ Some column
column_is column = simp the_lemmas

-- a name of a column, and what the code knows of one
abbrev pub column_gist : (place : ℕ) → Column → ExprKind → Gist
column_gist place column kind = record (plain_gist place (value kind)) { column = Some column }

-- a name that stands for an item, by what is known of the item
abbrev pub named_gist : (place : ℕ) → Gist → Gist
named_gist place item = record item {
  place = place;
  sums = place;
  call = option_map (λ _. place) item.call;
  fault = None;
}

abbrev pub faulty_gist : ResolveKind → (place : ℕ) → Gist
faulty_gist kind place = record (plain_gist place (value faulty)) { fault = Some (fault_at kind place) }

abbrev with_column : (place : ℕ) → Gist → Option Column → Gist
with_column place gist column = record gist { column = column }

gist-column : (tables : List Table) (scope : Scope) (place : ℕ) (column : Column)
    → gist_of (column_reading tables scope place column)
    ≡ column_gist place column (column_kind tables scope.sources column)
gist-column tables scope place column =
    ap (with_column place (plain_gist place (value (column_kind tables scope.sources column))))
    (column_is column)

gist-faulty : (kind : ResolveKind) (place : ℕ) → gist_of (faulty_name kind place) ≡ faulty_gist kind place
gist-faulty kind place = ap (with_column place (faulty_gist kind place)) (literal_column Null)

nearer_call : (place call : ℕ) (other : Option ℕ) → Some place
    ≡ option_map (λ _. place) (nearer (Some call) other)
nearer_call place call None = refl
nearer_call place call (Some other) = refl

first_call : (place : ℕ) (calls : List ℕ) → nearest (one_call place calls)
    ≡ option_map (λ _. place) (nearest calls)
first_call place [] = refl
first_call place (call ∷ calls) = nearer_call place call (nearest calls)

gist-named : (place : ℕ) (item : Reading) → gist_of (named place item) ≡ named_gist place (gist_of item)
gist-named place item =
    ap (λ (call : Option ℕ). record (gist_of item) { place = place; sums = place; call = call; fault = None })
    (first_call place item.calls)

module _ (tables : List Table) (scope : Scope) (listed : List Selected) (sight : Sight) (place : ℕ)
    (meaning : Meaning) (one : Reading)
    (stands : Stands tables scope listed sight place meaning one) where
  abbrev At : Meaning → Type 0
  At meaning = Stands tables scope listed sight place meaning one

  pub looked-Column : (before after : Mentions) (facts : Facts) (column : Column) (kind : ExprKind)
      → meaning ≡ meanings.Column column → kind ≡ kind_by sight column → gist_at facts
      ≡ column_gist place column kind
      → after.loose.items ≡ before.loose.items ++ record { place = place; column = column } ∷ []
      → after.aggregates.items ≡ before.aggregates.items → after.literals.items ≡ before.literals.items
      → HasLooked before after facts one
  looked-Column before after facts column kind means found is more same_aggregates same_literals =
      let column_stands : IsColumn tables scope listed sight place column one = subst At means stands in
      let Looked : Reading → Type 0 = λ one. HasLooked before after facts one in
      subst Looked (sym column_stands.is) (record {
        gist = is ∙ ap (column_gist place column) (found ∙ column_stands.kind)
            ∙ sym (gist-column tables scope place column);
        loose = ap loose_at more
            ∙ map_push (λ (one : Loose). (one.place, one.column)) before.loose.items
            (record { place = place; column = column });
        aggregates = same_aggregates ∙ sym (append-nil before.aggregates.items);
        literals = same_literals ∙ sym (append-nil before.literals.items);
      })

  pub looked-Item : (mentions : Mentions) (facts : Facts) (kept : Kept) → meaning ≡ meanings.Item kept
      → gist_at facts ≡ named_gist place (gist_at kept.facts) → HasLooked mentions mentions facts one
  looked-Item mentions facts kept means is =
      let item_stands : IsItem tables scope listed sight place kept one = subst At means stands in
      let Looked : Reading → Type 0 = λ one. HasLooked mentions mentions facts one in
      subst Looked (sym item_stands.is)
      (nothing_more mentions facts (named place item_stands.item)
      (is ∙ ap (named_gist place) item_stands.alias.facts ∙ sym (gist-named place item_stands.item)) refl refl
      refl)

  pub looked-Wrong : (mentions : Mentions) (facts : Facts) (kind : ResolveKind) → meaning
      ≡ meanings.Wrong kind
      → gist_at facts ≡ faulty_gist kind place → HasLooked mentions mentions facts one
  looked-Wrong mentions facts kind means is =
      let wrong : one ≡ faulty_name kind place = subst At means stands in
      let Looked : Reading → Type 0 = λ one. HasLooked mentions mentions facts one in
      subst Looked (sym wrong)
      (nothing_more mentions facts (faulty_name kind place) (is ∙ sym (gist-faulty kind place)) refl refl
      refl)
