-- What is asked for where a script within its limits is run.
use Rattle.std.proofs.Common.{◌≡◌, ℕ, ◌≤◌, List, length, All, sym, subst}
use Rattle.sa_table.specs.Table.{Table}
use Rattle.sa_script.specs.declared.script.Script.{Script}
use Rattle.sa_script.specs.Limits.{IsWithinLimits}
use Rattle.sa_plan.specs.declared.prepared.Work.TheVariants as work
use Rattle.sa_prepare.specs.Prepared.{Prepares}
use Rattle.sa_prepare.proofs.SoundWork.{prepared_is_sound}
use Rattle.sa_desk.specs.Legal.{Sessions, given_of}
use Rattle.sa_desk.specs.program.Course.{Given, Answer, prepared}
use Rattle.sa_desk.specs.program.Prepares.{IsAnswer}
use Rattle.sa_worker.specs.Holds.{IsSoundAnswer}
use Rattle.sa_worker.specs.Sound.{GivesSound}
use Rattle.sa_step.specs.Sessions.{MayStart, AreSound}
use Rattle.sa_step.specs.Remaining.{IsSession}

-- A script within its limits may start.
pub may_start : (script : Script) → IsWithinLimits script → (tables : List Table) (texts : List (List (List ℕ))) → texts ≡ script.sessions
    → MayStart (record { tables = tables; texts = texts; quantum = script.quantum; turns = script.turns })
may_start script limits tables texts same = record {
  few = subst (λ texts. length texts ≤ 16) (sym same) limits.sessions;
  short = subst (All (λ texts. length texts ≤ 256)) (sym same) limits.statements;
  least_quantum = limits.least_quantum;
  most_quantum = limits.most_quantum;
  least_turns = limits.least_turns;
  most_turns = limits.most_turns;
}

-- Its schedule names sessions that are there.
pub may_schedule : (script : Script) → IsWithinLimits script → (texts : List (List (List ℕ))) (schedule : List ℕ) → texts ≡ script.sessions → schedule ≡ script.schedule
    → All (IsSession (length texts)) schedule
may_schedule script limits texts schedule same same_schedule =
    subst (λ texts. All (IsSession (length texts)) schedule) (sym same)
    (subst (All (IsSession (length script.sessions))) (sym same_schedule) limits.schedule)

sound_answer : (given : Given) (text : List ℕ) (answer : Answer) → IsAnswer (Prepares given.tables) text answer → IsSoundAnswer given answer
sound_answer given text (prepared canonical (work.Select planned)) is =
    let plan = prepared_is_sound given.tables text (record { text = canonical; work = work.Select planned }) is in record { lawful = plan.lawful; runnable = plan.runnable }
sound_answer given text (prepared canonical (work.Analyze planned)) is =
    let plan = prepared_is_sound given.tables text (record { text = canonical; work = work.Analyze planned }) is in record { lawful = plan.lawful; runnable = plan.runnable }
sound_answer given text (prepared canonical (work.SetLimit limit)) is = prepared_is_sound given.tables text (record { text = canonical; work = work.SetLimit limit }) is
sound_answer given text answer is = tt

-- Whatever is prepared over the tables can be run by each of the sessions.
pub are_sound : (ready : List Table) (sessions : Sessions) → ready ≡ sessions.tables → AreSound (Prepares ready) sessions
are_sound ready sessions same session least most =
    subst (λ ready. GivesSound (Prepares ready) (given_of sessions session)) (sym same)
    (record { sound = λ text answer is. sound_answer (given_of sessions session) text answer is })
