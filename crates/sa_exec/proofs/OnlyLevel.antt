-- The level of a plan of one level.
use Rattle.std.proofs.Common.{◌≡◌, List, [], ◌∷◌, length, All, get_or, refl, subst, arith}
use Rattle.std.proofs.lemmas.List.{get_or_read}
use Rattle.sa_query.specs.declared.item.Item.{Item}
use Rattle.sa_plan.specs.declared.access.Access.TheVariants as access
use Rattle.sa_plan.specs.declared.plan.Level.{Level}
use Rattle.sa_plan.specs.declared.plan.Plan.{Plan}
use Rattle.sa_plan.specs.Lawful.{IsLawful, IsLawfulExpr, IsLawfulLevel, AreLawfulLevels}
use Rattle.sa_meaning.specs.Data.{RunData}
use Rattle.sa_meaning.specs.Progress.{IsRunnable}
use Rattle.sa_exec.specs.inner.Place.{no_level, only_level}

-- A list of one element is that element.
one-element : {A : Type 0} (xs : List A) (d : A) → length xs ≡ 1 → xs ≡ get_or xs 0 d ∷ []
one-element [] d one = absurd (omega (arith, one))
one-element (x ∷ []) d one = refl
one-element (x ∷ y ∷ ys) d one = absurd (omega (arith, one))

pub only_level-is : (plan : Plan) → IsRunnable plan → plan.levels ≡ only_level plan ∷ []
only_level-is plan runnable = one-element plan.levels no_level runnable.one

-- It reads its whole table.
pub only_level-whole : (plan : Plan) → IsRunnable plan → (only_level plan).access ≡ access.All
only_level-whole plan runnable = runnable.whole 0 no_level (omega (arith, runnable.one))

-- What stands first in the plan's levels is that level.
pub only_level-read : (plan : Plan) (level : Level) → IsRunnable plan → level ≡ get_or plan.levels 0 level → level ≡ only_level plan
only_level-read plan level runnable here = get_or_read plan.levels 0 level (omega (arith, runnable.one)) here no_level

-- It is lawful.
pub only_level-lawful : (tables : RunData) (plan : Plan) → IsLawful tables plan → IsRunnable plan → IsLawfulLevel tables [] (only_level plan)
only_level-lawful tables plan lawful runnable =
    let levels = subst (AreLawfulLevels tables []) (only_level-is plan runnable) lawful.levels in levels.0

-- The select list sees it alone.
pub select-lawful : (tables : RunData) (plan : Plan) → IsLawful tables plan → IsRunnable plan
    → All (λ (item : Item). IsLawfulExpr tables (only_level plan ∷ []) item.value) plan.select
select-lawful tables plan lawful runnable =
    subst (λ levels. All (λ (item : Item). IsLawfulExpr tables levels item.value) plan.select) (only_level-is plan runnable) lawful.select
