-- Only a poll and a withdrawal end requests, so that what is so of all other events is so of all other calls.
use Rattle.std.proofs.Common.{◌≡◌, ℕ, ◌+◌, ◌==◌, if◌then◌else◌, Bool, true, false, List, [], ◌∷◌, ◌++◌, map, nat_lt, Option, Some, None, refl}
use Rattle.std.specs.Prelude.{⊤}
use Rattle.sa_ast.specs.declared.kind.AskKind.{AskKind}
use Rattle.sa_ast.specs.declared.kind.KillKind.{KillKind}
use Rattle.sa_count.specs.declared.report.Report.{Report}
use Rattle.sa_plan.specs.declared.plan.Plan.{Plan}
use Rattle.sa_meaning.specs.Data.{RunData}
use Rattle.sa_meaning.specs.Progress.{Progress}
use Rattle.sa_desk.specs.declared.entry.Entry.{Entry}
use Rattle.sa_desk.specs.declared.entry.Event.{Event}
use Rattle.sa_desk.specs.declared.entry.Event.TheVariants as event
use Rattle.sa_desk.specs.declared.answer.Asked.{Asked}
use Rattle.sa_desk.specs.declared.answer.Asked.TheVariants as asked
use Rattle.sa_desk.specs.declared.answer.Killed.{Killed}
use Rattle.sa_desk.specs.declared.answer.Killed.TheVariants as killed
use Rattle.sa_desk.specs.declared.answer.Looked.TheVariants as looked
use Rattle.sa_desk.specs.declared.answer.Polled.{Polled}
use Rattle.sa_desk.specs.declared.answer.Polled.TheVariants as answer
use Rattle.sa_desk.specs.declared.answer.Withdrawn.{Withdrawn}
use Rattle.sa_desk.specs.declared.answer.Withdrawn.TheVariants as withdrawn
use Rattle.sa_desk.specs.declared.outcome.Finish.TheVariants.{Plain}
use Rattle.sa_desk.specs.declared.outcome.Outcome.{Outcome}
use Rattle.sa_desk.specs.declared.request.Request.{Request}
use Rattle.sa_desk.specs.declared.stamp.Stamp.{Stamp}
use Rattle.sa_desk.specs.State.{Phase, idle, unplanned, planned, serving, closed, queue_of}
use Rattle.sa_desk.specs.Comes.{Comes}
use Rattle.sa_desk.specs.Runs.{Runs}
use Rattle.sa_desk.specs.Contents.{Contents, phase, state, entry_by, later}
use Rattle.sa_desk.specs.Serving.{served_with, report_of}
use Rattle.sa_desk.specs.call.Ask.{ask_answer, ask_event}
use Rattle.sa_desk.specs.call.End.{end_entry, end_entries, served_by, run_of, outcome_of}
use Rattle.sa_desk.specs.call.Kill.{kill_answer, kill_event}
use Rattle.sa_desk.specs.call.Look.{look_answer, look_events, looks_before}
use Rattle.sa_desk.specs.call.Poll.{polled, poll_events}
use Rattle.sa_desk.specs.call.Withdraw as withdraw
use Rattle.sa_desk.specs.program.Turn.{itself, made}
use Rattle.sa_worker.specs.View.{View, Stage, call_at}
use Rattle.sa_worker.specs.View as stages
use Rattle.sa_step.specs.Schedule.{AreEach}
use Rattle.sa_step.proofs.Ordered.{AreEach-append}

-- A stage whose call may end the session's request.
abbrev pub MayEndRequest : Stage → Type 0
MayEndRequest (stages.polls kind i count) = ⊤
MayEndRequest (stages.withdraws kind i count) = ⊤
MayEndRequest stage = ⊥

abbrev pub EndsNoRequest : Event → Type 0
EndsNoRequest (event.Taken number) = ⊥
EndsNoRequest (event.Spent number turns) = ⊥
EndsNoRequest (event.Withdrawn number) = ⊥
EndsNoRequest event = ⊤

module _ (Is : List Entry → Entry → Event → Type 0) (other : (before : List Entry) (entry : Entry) (event : Event) → EndsNoRequest event → Is before entry event)
    (desk : Contents) (stamp : Stamp) where
  abbrev IsSo : List Entry → Entry → Type 0
  IsSo before entry = Is before entry entry.event

  abbrev AreSo : List Entry → Type 0
  AreSo entries = AreEach IsSo desk.journal entries

  abbrev RunsOn : List Entry → Type 0
  RunsOn entries = Runs desk.terms (state desk) entries

  -- What ends the session's request is so.
  abbrev pub EndIsSo : Type 0
  EndIsSo = (entry : Entry) → entry.actor ≡ stamp.actor → entry.turn ≡ stamp.turn → Comes desk.terms (state desk) entry → Is desk.journal entry entry.event

  one_so : (event : Event) → EndsNoRequest event → AreSo (entry_by desk stamp event ∷ [])
  one_so event none = (other desk.journal (entry_by desk stamp event) event none, tt)

  served_so : (report : Report) (stamp : Stamp) (queue : List Request) (before : List Entry) → AreEach IsSo before (served_with desk report stamp queue)
  served_so report stamp [] before = tt
  served_so report stamp (request ∷ rest) before =
      let entry = entry_by desk stamp (event.Served request.asker request.request report) in
      (other before entry (event.Served request.asker request.request report) tt, served_so report (later 1 stamp) rest (before ++ entry ∷ []))

  served_by_so : (run : Option Progress) → AreSo (served_by desk stamp run)
  served_by_so None = tt
  served_by_so (Some run) = served_so (report_of run) stamp (queue_of (phase desk)) desk.journal

  ended_so : (number : ℕ) (run : Option Progress) (given : Outcome) → AreSo (end_entries desk stamp number run given)
  ended_so number run given =
      let last = end_entry desk stamp number run given in
      AreEach-append IsSo desk.journal (served_by desk stamp run) (last ∷ []) (served_by_so run) (other (desk.journal ++ served_by desk stamp run) last last.event tt, tt)

  asked_so : (number : ℕ) (kind : AskKind) (budget : ℕ) (answer : Asked) → AreSo (entry_by desk stamp (ask_event answer number kind desk.published budget) ∷ [])
  asked_so number kind budget asked.Queued = one_so _ tt
  asked_so number kind budget asked.NotExplainable = one_so _ tt
  asked_so number kind budget asked.NoSuchThread = one_so _ tt

  polled_so : (number : ℕ) (polled : Polled) → EndIsSo → RunsOn (map (entry_by desk stamp) (poll_events polled number)) → AreSo (map (entry_by desk stamp) (poll_events polled number))
  polled_so number (answer.Taken report begin) ends runs = (ends (entry_by desk stamp (event.Taken number)) refl refl runs.0, tt)
  polled_so number (answer.Spent turns) ends runs = (ends (entry_by desk stamp (event.Spent number turns)) refl refl runs.0, tt)
  polled_so number answer.NotYet ends runs = tt

  withdrawn_so : (number : ℕ) (answer : Withdrawn) → EndIsSo → RunsOn (entry_by desk stamp (withdraw.withdraw_event answer number) ∷ []) → AreSo (entry_by desk stamp (withdraw.withdraw_event answer number) ∷ [])
  withdrawn_so number withdrawn.Taken ends runs = (ends (entry_by desk stamp (event.Taken number)) refl refl runs.0, tt)
  withdrawn_so number withdrawn.Removed ends runs = (ends (entry_by desk stamp (event.Withdrawn number)) refl refl runs.0, tt)

  killed_so : (number : ℕ) (kind : KillKind) (answer : Killed) → AreSo (entry_by desk stamp (kill_event answer number kind) ∷ [])
  killed_so number kind killed.Ok = one_so _ tt
  killed_so number kind killed.NoSuchThread = one_so _ tt

  begun_so : (doomed : Bool) (number : ℕ) (text : List ℕ) (plan : Option Plan) (tables : Option RunData) → AreSo (entry_by desk stamp (if doomed then event.Gone number else event.Begin number text 0 plan tables) ∷ [])
  begun_so true number text plan tables = one_so _ tt
  begun_so false number text plan tables = one_so _ tt

  open_so : (number turns : ℕ) (far last : Bool)
      → AreSo (map (entry_by desk stamp) (look_events (if far then (if last then looked.Spent desk.published turns else looked.NotYet) else looked.Reached desk.published) number))
  open_so number turns true true = one_so _ tt
  open_so number turns true false = tt
  open_so number turns false last = one_so _ tt

  looked_so : (number at count turns : ℕ) (found : Phase) → AreSo (map (entry_by desk stamp) (look_events (look_answer found at desk.published count turns) number))
  looked_so number at count turns closed = one_so _ tt
  looked_so number at count turns idle = open_so number turns (nat_lt desk.published at) (count + 1 == turns)
  looked_so number at count turns (unplanned statement) = open_so number turns (nat_lt desk.published at) (count + 1 == turns)
  looked_so number at count turns (planned statement execution) = open_so number turns (nat_lt desk.published at) (count + 1 == turns)
  looked_so number at count turns (serving statement execution steps turn) = open_so number turns (nat_lt desk.published at) (count + 1 == turns)

  pub made_so : (view : View) (stage : Stage) → (MayEndRequest stage → EndIsSo) → RunsOn (made desk stamp view.number (call_at view stage)) → AreSo (made desk stamp view.number (call_at view stage))
  made_so view stages.opens ends runs = begun_so (state desk).doomed view.number _ _ _
  made_so view stages.closes ends runs = one_so _ tt
  made_so view (stages.ends result) ends runs = ended_so view.number (run_of itself (Plain result)) (outcome_of itself (Plain result))
  made_so view (stages.asks kind i) ends runs = asked_so view.number kind view.given.turns (ask_answer (phase desk))
  made_so view (stages.polls kind i count) ends runs = polled_so view.number (polled desk stamp view.number) (ends tt) runs
  made_so view (stages.looks_asking kind i count) ends runs = tt
  made_so view (stages.withdraws kind i count) ends runs = withdrawn_so view.number (withdraw.withdrawn desk stamp view.number) (ends tt) runs
  made_so view (stages.kills kind i) ends runs = killed_so view.number kind (kill_answer (phase desk))
  made_so view (stages.waits i at count) ends runs = looked_so view.number at (looks_before desk stamp view.number at) desk.terms.turns (phase desk)
  made_so view (stages.looks_waiting i at count) ends runs = tt
  made_so view (stages.points chosen so_many run) ends runs = served_so (report_of run) stamp (queue_of (phase desk)) desk.journal
  made_so view (stages.ends_run chosen so_many run given) ends runs = ended_so view.number (run_of itself given) (outcome_of itself given)
  made_so view stages.prepares ends runs = tt
  made_so view (stages.makes_steps chosen so_many run) ends runs = tt
  made_so view stages.done ends runs = tt
