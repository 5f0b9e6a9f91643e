use Rattle.std.proofs.Common.{[], ◌∷◌, All, take}
use Rattle.sa_query.specs.declared.item.Item.{Item}
use Rattle.sa_plan.specs.Lawful.{IsLawfulExpr}
use Rattle.sa_plan_fixtures.proofs.lawful.are_lawful_items.Given as goal

abbrev pub invariant-loop-item : goal.invariant-loop-item
invariant-loop-item l = All (λ (item : Item). IsLawfulExpr l.only.tables.now (l.only.level.now ∷ []) item.value) (take l.item-index l.items)
