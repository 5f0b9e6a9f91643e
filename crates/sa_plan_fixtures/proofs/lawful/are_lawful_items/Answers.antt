use Rattle.std.proofs.Common.{[], ◌∷◌, All, refl, subst}
use Rattle.std.proofs.lemmas.List.{take_all}
use Rattle.std.proofs.lemmas.List.Elements.{All-more}
use Rattle.sa_query.specs.declared.item.Item.{Item}
use Rattle.sa_plan.specs.Lawful.{IsLawfulExpr}
use Rattle.sa_plan_fixtures.proofs.lawful.are_lawful_items.Goals as goal

pub loop-item-preserved : goal.loop-item-preserved
loop-item-preserved c =
    let P : Item → Type 0 = λ item. IsLawfulExpr c.args.only.now.tables.now (c.args.only.now.level.now ∷ []) item.value in
    All-more P c.args.items.now c.loop-item.item-index c.item-item.result c.loop-item-test.true c.loop-item.invariant
    (subst P c.item-item.is (c.if-not-is_lawful_expr.ensures refl))

pub returns : goal.returns
returns c = λ is.
    let P : Item → Type 0 = λ item. IsLawfulExpr c.args.only.now.tables.now (c.args.only.now.level.now ∷ []) item.value in
    subst (All P) (take_all c.loop-item.item-index c.args.items.now c.loop-item-test.false) c.loop-item.invariant
