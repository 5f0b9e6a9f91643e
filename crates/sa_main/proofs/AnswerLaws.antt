-- What the laws of the crates below give for a script and for an input with a fault.
use Rattle.std.proofs.Common.{◌≡◌, ◌≢◌, ℕ, ◌≤◌, List, length, All, refl, sym, subst, ap, ◌∙◌}
use Rattle.std.specs.Prelude.{Option, Result, Ok, Err}
use Rattle.sa_table.specs.Table.{Table}
use Rattle.sa_script.specs.declared.script.Script.{Script}
use Rattle.sa_script.specs.declared.fault.ScriptKind.{ScriptKind}
use Rattle.sa_script.specs.declared.fault.ScriptFault.{ScriptFault}
use Rattle.sa_script.specs.declared.fault.ScriptFault.TheVariants.{Bad, OutOfMemory}
use Rattle.sa_script.specs.Script.{IsScriptOf}
use Rattle.sa_script.specs.Limits.{IsWithinLimits}
use Rattle.sa_plan.specs.Names.{names_of}
use Rattle.sa_plan.specs.declared.prepared.Work.TheVariants as work
use Rattle.sa_prepare.specs.Prepared.{Prepares}
use Rattle.sa_desk.specs.declared.entry.Entry.{Entry}
use Rattle.sa_desk.specs.Legal.{Sessions, given_of, IsLegal}
use Rattle.sa_desk.specs.program.Course.{Given, Answer, prepared}
use Rattle.sa_desk.specs.program.Prepares.{IsAnswer}
use Rattle.sa_worker.specs.Holds.{IsSoundAnswer}
use Rattle.sa_worker.specs.Sound.{GivesSound}
use Rattle.sa_transcript.specs.Transcript.{CanTell, transcript}
use Rattle.sa_transcript.specs.FaultLine.{fault_text}
use Rattle.sa_step.specs.Sessions.{MayStart, AreSound}
use Rattle.sa_step.specs.Remaining.{IsSession}
use Rattle.sa_step.specs.Schedule.{InSchedule}
use Rattle.sa_step.specs.Course.{InCourse}
use Rattle.sa_legal.specs.Shows.{ShowsLawful}
use Rattle.sa_legal.proofs.Telling.{can_be_told}
use Rattle.sa_prepare.proofs.SoundWork.{prepared_is_sound}
use Rattle.sa_plan.specs.declared.names.TableNames.{TableNames}
use Rattle.sa_main.specs.declared.command.Command.TheVariants.{Step, Run}
use Rattle.sa_main.specs.Answer.{sessions_of, TellsJournals, IsRefusal}

-- A script within its limits may start.
pub may_start : (script : Script) → IsWithinLimits script → (tables : List Table) (texts : List (List (List ℕ))) → texts ≡ script.sessions
    → MayStart (record { tables = tables; texts = texts; quantum = script.quantum; turns = script.turns })
may_start script limits tables texts same = record {
  few = subst (λ texts. length texts ≤ 16) (sym same) limits.sessions;
  short = subst (All (λ texts. length texts ≤ 256)) (sym same) limits.statements;
  least_quantum = limits.least_quantum;
  most_quantum = limits.most_quantum;
  least_turns = limits.least_turns;
  most_turns = limits.most_turns;
}

-- Its schedule names sessions that are there.
pub may_schedule : (script : Script) → IsWithinLimits script → (texts : List (List (List ℕ))) (schedule : List ℕ) → texts ≡ script.sessions → schedule ≡ script.schedule
    → All (IsSession (length texts)) schedule
may_schedule script limits texts schedule same same_schedule =
    subst (λ texts. All (IsSession (length texts)) schedule) (sym same)
    (subst (All (IsSession (length script.sessions))) (sym same_schedule) limits.schedule)

sound_answer : (given : Given) (text : List ℕ) (answer : Answer) → IsAnswer (Prepares given.tables) text answer → IsSoundAnswer given answer
sound_answer given text (prepared canonical (work.Select planned)) is =
    let plan = prepared_is_sound given.tables text (record { text = canonical; work = work.Select planned }) is in record { lawful = plan.lawful; runnable = plan.runnable }
sound_answer given text (prepared canonical (work.Analyze planned)) is =
    let plan = prepared_is_sound given.tables text (record { text = canonical; work = work.Analyze planned }) is in record { lawful = plan.lawful; runnable = plan.runnable }
sound_answer given text (prepared canonical (work.SetLimit limit)) is = prepared_is_sound given.tables text (record { text = canonical; work = work.SetLimit limit }) is
sound_answer given text answer is = tt

-- Whatever is prepared over the tables can be run by each of the sessions.
pub are_sound : (ready : List Table) (sessions : Sessions) → ready ≡ sessions.tables → AreSound (Prepares ready) sessions
are_sound ready sessions same session least most =
    subst (λ ready. GivesSound (Prepares ready) (given_of sessions session)) (sym same)
    (record { sound = λ text answer is. sound_answer (given_of sessions session) text answer is })

shows_lawful : (tables : List Table) → ShowsLawful (Prepares tables) tables
shows_lawful tables = record { lawful = λ source text planned is. (prepared_is_sound tables source (record { text = text; work = work.Explain planned }) is).lawful }

module _ (script : Script) (ready tables : List Table) (texts : List (List (List ℕ))) (ready_same : ready ≡ script.tables) (tables_same : tables ≡ script.tables) (texts_same : texts ≡ script.sessions)
    (journals : List (List Entry)) (legal : IsLegal (Prepares ready) (record { tables = tables; texts = texts; quantum = script.quantum; turns = script.turns }) journals) where
  legal_here : IsLegal (Prepares script.tables) (sessions_of script) journals
  legal_here =
      subst (λ texts. IsLegal (Prepares script.tables) (record { tables = script.tables; texts = texts; quantum = script.quantum; turns = script.turns }) journals) texts_same
      (subst (λ tables. IsLegal (Prepares script.tables) (record { tables = tables; texts = texts; quantum = script.quantum; turns = script.turns }) journals) tables_same
      (subst (λ ready. IsLegal (Prepares ready) (record { tables = tables; texts = texts; quantum = script.quantum; turns = script.turns }) journals) ready_same legal))

  -- The journals of a script's sessions can be told with the names of its tables.
  pub can_tell : (names : List TableNames) → names ≡ names_of script.tables → CanTell names journals
  can_tell names same =
      subst (λ names. CanTell names journals) (sym same)
      (can_be_told (Prepares script.tables) (sessions_of script) journals (are_sound script.tables (sessions_of script) refl) (shows_lawful script.tables) legal_here)

  scheduled_here : (schedule : List ℕ) → schedule ≡ script.schedule → InSchedule (record { tables = tables; texts = texts; quantum = script.quantum; turns = script.turns }) schedule journals
      → InSchedule (sessions_of script) script.schedule journals
  scheduled_here schedule schedule_same scheduled =
      subst (λ texts. InSchedule (record { tables = script.tables; texts = texts; quantum = script.quantum; turns = script.turns }) script.schedule journals) texts_same
      (subst (λ tables. InSchedule (record { tables = tables; texts = texts; quantum = script.quantum; turns = script.turns }) script.schedule journals) tables_same
      (subst (λ schedule. InSchedule (record { tables = tables; texts = texts; quantum = script.quantum; turns = script.turns }) schedule journals) schedule_same scheduled))

  coursed_here : (schedule : List ℕ) → schedule ≡ script.schedule → InCourse (Prepares ready) (record { tables = tables; texts = texts; quantum = script.quantum; turns = script.turns }) schedule journals
      → InCourse (Prepares script.tables) (sessions_of script) script.schedule journals
  coursed_here schedule schedule_same coursed =
      subst (λ texts. InCourse (Prepares script.tables) (record { tables = script.tables; texts = texts; quantum = script.quantum; turns = script.turns }) script.schedule journals) texts_same
      (subst (λ tables. InCourse (Prepares script.tables) (record { tables = tables; texts = texts; quantum = script.quantum; turns = script.turns }) script.schedule journals) tables_same
      (subst (λ ready. InCourse (Prepares ready) (record { tables = tables; texts = texts; quantum = script.quantum; turns = script.turns }) script.schedule journals) ready_same
      (subst (λ schedule. InCourse (Prepares ready) (record { tables = tables; texts = texts; quantum = script.quantum; turns = script.turns }) schedule journals) schedule_same coursed)))

  pub tells_stepped : (schedule : List ℕ) → schedule ≡ script.schedule → InSchedule (record { tables = tables; texts = texts; quantum = script.quantum; turns = script.turns }) schedule journals
      → InCourse (Prepares ready) (record { tables = tables; texts = texts; quantum = script.quantum; turns = script.turns }) schedule journals
      → (names : List TableNames) (text : List ℕ) → names ≡ names_of script.tables → text ≡ transcript names journals → TellsJournals Step script text
  tells_stepped schedule schedule_same scheduled coursed names text same told = record {
    journals = journals;
    legal = legal_here;
    in_order = λ _. record { in_schedule = scheduled_here schedule schedule_same scheduled; in_course = coursed_here schedule schedule_same coursed };
    told = told ∙ ap (λ names. transcript names journals) same;
  }

  -- No order is told of sessions on threads.
  pub tells_run : (names : List TableNames) (text : List ℕ) → names ≡ names_of script.tables → text ≡ transcript names journals → TellsJournals Run script text
  tells_run names text same told = record {
    journals = journals;
    legal = legal_here;
    in_order = λ step. absurd (let same : Run ≡ Step = step in cc);
    told = told ∙ ap (λ names. transcript names journals) same;
  }

-- An input with a fault is no script, and its line tells the fault.
pub is_refusal : ((text : List ℕ) (answer other : Result Script ScriptFault) → IsScriptOf text answer → IsScriptOf text other →
    answer ≢ Err OutOfMemory → other ≢ Err OutOfMemory → answer ≡ other)
    → (input text : List ℕ) (fault : ScriptFault) → IsScriptOf input (Err fault) → fault ≢ OutOfMemory
    → ((kind : ScriptKind) (place : ℕ) (line : Option ℕ) → fault ≡ Bad kind place line → text ≡ fault_text (record { kind = kind; place = place; line = line }))
    → IsRefusal input text
is_refusal one input text (Bad kind place line) found known told = record {
  no_script = λ script is. absurd (let same : Ok script ≡ Err (Bad kind place line) = one input (Ok script) (Err (Bad kind place line)) is found (λ e. absurd cc) (λ e. absurd cc) in cc);
  fault = record { kind = kind; place = place; line = line };
  found = found;
  refused = told kind place line refl;
}
is_refusal one input text OutOfMemory found known told = absurd (known refl)
