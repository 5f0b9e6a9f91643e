-- What holds of the work of a statement that is ready to run.
use Rattle.std.specs.Prelude.{⊤, ◌≤◌, ◌^◌, List}
use Rattle.sa_table.specs.Table.{Table}
use Rattle.sa_plan.specs.declared.plan.Plan.{Plan}
use Rattle.sa_plan.specs.declared.prepared.Work.{Work}
use Rattle.sa_plan.specs.declared.prepared.Work.TheVariants as work
use Rattle.sa_plan.specs.Lawful.{IsLawful}
use Rattle.sa_meaning.specs.Progress.{IsRunnable}

-- The plan is lawful for the tables, and can be run today.
pub record IsSoundPlan (tables : List Table) (plan : Plan) : Type 0 where
  pub lawful : IsLawful tables plan
  pub runnable : IsRunnable plan

-- A plan is sound, and a limit of row steps is one that a statement may set.
abbrev pub IsSoundWork : List Table → Work → Type 0
IsSoundWork tables (work.Select planned) = IsSoundPlan tables planned.plan
IsSoundWork tables (work.Explain planned) = IsSoundPlan tables planned.plan
IsSoundWork tables (work.Analyze planned) = IsSoundPlan tables planned.plan
IsSoundWork tables (work.SetLimit limit) = (1 ≤ limit) × (limit ≤ 2 ^ 40)
IsSoundWork tables does = ⊤
