use Rattle.std.proofs.Common.{[], ◌∷◌, All, take}
use Rattle.sa_plan.specs.Lawful.{IsLawfulCond}
use Rattle.sa_plan_fixtures.proofs.lawful.+lawful.Given as goal

abbrev pub invariant-are_lawful_conds-loop-cond : goal.invariant-are_lawful_conds-loop-cond
invariant-are_lawful_conds-loop-cond l = All (IsLawfulCond l.only.tables.now (l.only.level.now ∷ [])) (take l.cond-index l.conds)
