use Rattle.std.proofs.Common.{sym, subst, refl, ap, ◌∙◌, []}
use Rattle.sa_resolve.specs.Expression.{reading}
use Rattle.sa_resolve.specs.Selected.{items_at}
use Rattle.sa_resolve.specs.inner.Building.{IsStage, built}
use Rattle.sa_resolve.specs.inner.Listing.{IsRun}
use Rattle.sa_resolve.specs.inner.Names.{Sees}
use Rattle.sa_resolve.proofs.list.Choosing.{star_chosen}
use Rattle.sa_resolve.proofs.list.Listing.{value_chosen}
use Rattle.sa_resolve.proofs.select.choice.Goals as goal

pub returns-in-Star : goal.returns-in-Star
returns-in-Star c = λ tables seen sees.
    star_chosen tables seen c.args.scope.now.sight.now c.args.aggregates.now.items c.args.item.now
    c.run_of_all.result
    (subst (λ node. IsRun tables seen c.args.scope.now.sight.now c.args.item.now.place c.run_of_all.result
    (items_at tables seen c.args.item.now.place node))
    (sym c.in-Star.is) (c.run_of_all.ensures tables seen c.args.item.now.place sees))

pub returns-in-TableStar : goal.returns-in-TableStar
returns-in-TableStar c = λ tables seen sees.
    star_chosen tables seen c.args.scope.now.sight.now c.args.aggregates.now.items c.args.item.now
    c.run_of.result
    (subst (λ node. IsRun tables seen c.args.scope.now.sight.now c.args.item.now.place c.run_of.result
    (items_at tables seen c.args.item.now.place node))
    (sym c.in-TableStar.is) (c.run_of.ensures tables seen c.args.item.now.place sees))

pub returns-in_ok-expr-in-Value : goal.returns-in_ok-expr-in-Value
returns-in_ok-expr-in-Value c = λ tables seen sees.
    let there : Sees tables seen [] c.over_rows.result.scope = subst (Sees tables seen [])
    (sym c.over_rows.ensures.scope) sees in
    let rows : IsStage seen [] c.over_rows.result.stage = subst (IsStage seen [])
    (sym c.over_rows.ensures.stage) tt in
    value_chosen tables seen c.args.scope.now.sight.now c.args.aggregates.now.items
    c.look.new.aggregates.items c.args.item.now
    c.in-Value.value c.in-Value.alias _ c.in-Value.is refl c.as_ref.ensures.value
    (c.in_ok-look-in-Value.ensures tables seen [] sees)
    (c.in_ok-expr-in-Value.ensures tables seen [] there rows
    ∙ ap (λ stage. built stage (reading tables seen c.in-Value.value)) c.over_rows.ensures.stage)
