use mir.Syntax.{w128}
use mir.Val.{SFits}
use Rattle.std.proofs.Common.{ℤ, IfOk, rules, refl, subst, sym, ap, ◌∙◌}
use Rattle.std.proofs.lemmas.Int.{to_z-of_z}
use Rattle.sa_resolve.specs.declared.look.Looked.{Looked}
use Rattle.sa_resolve.specs.declared.sight.Sight.{Sight}
use Rattle.sa_resolve.specs.Clauses.{item_at, items, positioned, scope_of, select_scope}
use Rattle.sa_resolve.specs.Reading.{Reading}
use Rattle.sa_resolve.specs.inner.Gist.{gist_at, gist_of}
use Rattle.sa_resolve.specs.inner.Listing.{IsSelectList}
use Rattle.sa_resolve.specs.inner.Looking.{LooksUp}
use Rattle.sa_resolve.proofs.judging.Items.{position_looked}
use Rattle.sa_resolve.proofs.walk.Placed.{placed-Number, placed-other}
use Rattle.sa_resolve.proofs.clauses.Reader.item.Goals as goal

pub returns-in-Number : goal.returns-in-Number
returns-in-Number c = λ tables tree slots seeks knows sees sight.
    let fits : SFits w128 c.in-Number.number = search rules in
    let list : IsSelectList tables (select_scope tables tree slots) c.args.scope.now.sight.now tree.items c.args.self.now.select.now =
    subst (λ (one : Sight). IsSelectList tables (select_scope tables tree slots) one tree.items c.args.self.now.select.now) (sym sight) knows.select in
    subst (λ (one : Reading). LooksUp c.args.aggregates.now.items c.args.aggregates.now.items c.name.result one)
    (sym (placed-Number tables (scope_of tables tree slots seeks) (items tables tree slots) c.args.value.now c.in-Number.number c.in-Number.is))
    (position_looked c.args.aggregates.now.items c.args.aggregates.now.items c.name.result c.args.value.now.place
    (item_at (items tables tree slots) c.in-Number.number)
    (ap gist_at c.name.ensures.facts ∙ c.positioned-facts.ensures tables (select_scope tables tree slots) tree.items list
    ∙ ap (λ (number : ℤ). gist_of (positioned c.args.value.now.place (item_at (items tables tree slots) number))) (to_z-of_z w128 c.in-Number.number fits))
    c.name.ensures.loose c.name.ensures.literals refl)

pub returns-in_default : goal.returns-in_default
returns-in_default c = λ tables tree slots seeks knows sees sight.
    subst (λ (one : Reading). IfOk c.look.result (λ (looked : Looked). LooksUp c.args.aggregates.now.items c.look.new.aggregates.items looked one))
    (sym (placed-other tables (scope_of tables tree slots seeks) (items tables tree slots) c.args.value.now c.in_default.not-Number))
    (c.look.ensures tables (scope_of tables tree slots seeks) (items tables tree slots) sees)
