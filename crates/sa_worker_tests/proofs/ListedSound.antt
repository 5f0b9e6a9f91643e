-- What the preparer of the tests answers is sound for the tables that it is over.
use Rattle.std.proofs.Common.{◌≡◌, ℕ, ◌≤◌, List, length, IfOk, subst, sym}
use Rattle.std.specs.declared.result.Result.{Result}
use Rattle.std.specs.declared.result.Result.TheVariants.{Ok, Err}
use Rattle.sa_table.specs.Table.{Table}
use Rattle.sa_query.specs.declared.refusal.Refusal.{Refusal}
use Rattle.sa_plan.specs.Answer.{MayAnswer}
use Rattle.sa_plan.specs.declared.prepared.Prepared.{Prepared}
use Rattle.sa_plan.specs.declared.prepared.Work.{Work}
use Rattle.sa_plan.specs.declared.prepared.Work.TheVariants as work
use Rattle.sa_desk.specs.Legal.{Sessions, given_of}
use Rattle.sa_desk.specs.program.Course.{Given, Answer, prepared, refused, starved}
use Rattle.sa_desk.specs.program.Prepares.{IsAnswer}
use Rattle.sa_prepare.specs.Prepared.{Prepares}
use Rattle.sa_prepare.specs.Sound.{IsSoundWork}
use Rattle.sa_worker.specs.Holds.{IsSoundAnswer}
use Rattle.sa_step.specs.Sessions.{AreSound}
use Rattle.sa_worker_tests.specs.Listed.{listed}

-- what is true of each answer of preparing over these tables
abbrev pub IsLaw : List Table → List ℕ → Type 0
IsLaw tables text = (ready : Prepared) → Prepares tables text (Ok ready) → IsSoundWork tables ready.work

pub sound_built : (tables : List Table) (text : List ℕ) → IsLaw tables text → (answer : Result Prepared Refusal) →
    MayAnswer (Prepares tables text) answer → IfOk answer (λ ready. IsSoundWork tables ready.work)
sound_built tables text law (Ok ready) may = law ready may
sound_built tables text law (Err why) may = tt

sound_work : (given : Given) (text : List ℕ) (does : Work) → IsSoundWork given.tables does →
    IsSoundAnswer given (prepared text does)
sound_work given text (work.Select planned) sound = record { lawful = sound.lawful; runnable = sound.runnable }
sound_work given text (work.Explain planned) sound = tt
sound_work given text (work.Analyze planned) sound = record { lawful = sound.lawful; runnable = sound.runnable }
sound_work given text (work.Show kind id) sound = tt
sound_work given text (work.Kill kind id) sound = tt
sound_work given text (work.SetTrace on) sound = tt
sound_work given text (work.SetLimit limit) sound = sound
sound_work given text work.TraceRows sound = tt
sound_work given text (work.Wait id at) sound = tt

sound_answer : (given : Given) (text : List ℕ) (answer : Answer) → IsAnswer (listed given.tables) text answer →
    IsSoundAnswer given answer
sound_answer given text (prepared said does) is = sound_work given said does is
sound_answer given text (refused why) is = tt
sound_answer given text (starved said) is = tt

sound_over : (script : Sessions) → AreSound (listed script.tables) script
sound_over script session least most = record { sound = λ text answer is. sound_answer (given_of script session) text answer is }

pub listed_sound : (tables : List Table) (script : Sessions) → tables ≡ script.tables → AreSound (listed tables) script
listed_sound tables script same = subst (λ tables. AreSound (listed tables) script) (sym same) (sound_over script)
