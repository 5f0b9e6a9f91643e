-- What the preparer of the tests may answer.
use Rattle.std.specs.Prelude.{ℕ, ⊤, List}
use Rattle.std.specs.declared.result.Result.{Result}
use Rattle.std.specs.declared.result.Result.TheVariants.{Ok, Err}
use Rattle.sa_table.specs.Table.{Table}
use Rattle.sa_query.specs.declared.refusal.Refusal.{Refusal}
use Rattle.sa_plan.specs.declared.prepared.Prepared.{Prepared}
use Rattle.sa_desk.specs.program.Prepares.{Answers}
use Rattle.sa_prepare.specs.Sound.{IsSoundWork}

-- A refusal, or work that can be done over these tables.
abbrev pub listed : List Table → Answers
listed tables text (Ok prepared) = IsSoundWork tables prepared.work
listed tables text (Err why) = ⊤
