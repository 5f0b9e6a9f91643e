-- What is built of a name, by what it stands for.
use Rattle.std.proofs.Common.{◌≡◌, ℕ, List, Result, IfOk, refl, sym, ap, subst, ◌∙◌}
use Rattle.sa_cond.specs.declared.expr.Expr.{Expr}
use Rattle.sa_value.specs.declared.memory.OutOfMemory.{OutOfMemory}
use Rattle.sa_table.specs.Table.{Table}
use Rattle.sa_query.specs.declared.group.Column.{Column}
use Rattle.sa_query.specs.declared.refusal.ResolveKind.{ResolveKind}
use Rattle.sa_resolve.specs.declared.alias.Alias.{Alias as Kept}
use Rattle.sa_resolve.specs.declared.build.Stage.{Stage}
use Rattle.sa_resolve.specs.declared.build.Stage.TheVariants as stages
use Rattle.sa_resolve.specs.declared.scope.Meaning.{Meaning}
use Rattle.sa_resolve.specs.declared.scope.Meaning.TheVariants as meanings
use Rattle.sa_resolve.specs.declared.sight.Sight.{Sight}
use Rattle.sa_resolve.specs.Expression.{Scope, column_reading}
use Rattle.sa_resolve.specs.Reading.{Reading, faulty_name, named, no_expr}
use Rattle.sa_resolve.specs.Selected.{Selected}
use Rattle.sa_resolve.specs.inner.Building.{built}
use Rattle.sa_resolve.specs.inner.Meanings.{IsAlias, IsColumn, IsItem, Stands}

-- What is made is also this, where both are the same.
pub ok_as : (result : Result Expr OutOfMemory) (one other : Expr) → one ≡ other
    → IfOk result (λ expr. expr ≡ one) → IfOk result (λ expr. expr ≡ other)
ok_as result one other same made =
    let Made : Expr → Type 0 = λ one. IfOk result (λ expr. expr ≡ one) in subst Made same made

named_at : (stage : Stage) (place : ℕ) (item : Reading) → built stage item ≡ built stage (named place item)
named_at stages.Rows place item = refl
named_at (stages.Answer slots items) place item = refl

faulty_at : (stage : Stage) (kind : ResolveKind) (place : ℕ) → no_expr ≡ built stage (faulty_name kind place)
faulty_at stages.Rows kind place = refl
faulty_at (stages.Answer slots items) kind place = refl

module _ (stage : Stage) (tables : List Table) (scope : Scope) (listed : List Selected) (sight : Sight)
    (place : ℕ) (meaning : Meaning)
    (one : Reading) (stands : Stands tables scope listed sight place meaning one) where
  abbrev At : Meaning → Type 0
  At meaning = Stands tables scope listed sight place meaning one

  pub column_built : (column : Column) → meaning ≡ meanings.Column column
      → built stage (column_reading tables scope place column) ≡ built stage one
  column_built column means =
      let column_stands : IsColumn tables scope listed sight place column one = subst At means stands in
      ap (built stage) (sym column_stands.is)

  pub item_built : (result : Result Expr OutOfMemory) (kept : Kept) → meaning ≡ meanings.Item kept
      → ((item : Reading) → IsAlias listed kept item → IfOk result (λ expr. expr ≡ built stage item))
      → IfOk result (λ expr. expr ≡ built stage one)
  item_built result kept means made =
      let item_stands : IsItem tables scope listed sight place kept one = subst At means stands in
      ok_as result (built stage item_stands.item) (built stage one)
      (named_at stage place item_stands.item ∙ ap (built stage) (sym item_stands.is))
      (made item_stands.item item_stands.alias)

  pub wrong_built : (kind : ResolveKind) → meaning ≡ meanings.Wrong kind → no_expr ≡ built stage one
  wrong_built kind means =
      let wrong : one ≡ faulty_name kind place = subst At means stands in
      faulty_at stage kind place ∙ ap (built stage) (sym wrong)
