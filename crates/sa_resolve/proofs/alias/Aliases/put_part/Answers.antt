use Rattle.std.proofs.Common.{◌++◌, append-nil, refl, subst, sym}
use Rattle.std.proofs.lemmas.Result.{on_ok_weaker}
use Rattle.sa_resolve.specs.Selected.{items_at}
use Rattle.sa_resolve.specs.inner.Listing.{IsChosen}
use Rattle.sa_resolve.specs.inner.Names.{AreAliases}
use Rattle.sa_resolve.proofs.list.Aliases.{star_aliases, value_aliased}
use Rattle.sa_resolve.proofs.alias.Aliases.put_part.Goals as goal

pub returns-in_default : goal.returns-in_default
returns-in_default c = λ tables scope sight listed kept first tree is stands are.
    let items = items_at tables scope tree.place tree.item in
    subst (λ more. AreAliases listed (kept ++ more) c.args.self.now)
    (sym (star_aliases tables scope sight tree.place c.in_default.field-0 items
    (subst (λ chosen. IsChosen tables scope sight tree.place chosen items) c.in_default.is is.chosen)))
    (subst (λ all. AreAliases listed all c.args.self.now) (sym (append-nil kept)) are)

pub returns : goal.returns
returns c = λ tables scope sight listed kept first tree is stands are.
    let items = items_at tables scope tree.place tree.item in
    on_ok_weaker c.put.result
    (λ put. value_aliased tables scope sight listed kept c.args.self.now c.put.new.self first tree.place items
    c.in-Value.value c.in-Some.name
    c.as_str.result.now _ (subst (λ chosen. IsChosen tables scope sight tree.place chosen items) c.in-Value.is
    is.chosen) stands are
    c.in-Some.is c.as_str.ensures refl refl is.first_is put)
    c.put.ensures
