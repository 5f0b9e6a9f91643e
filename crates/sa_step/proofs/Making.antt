-- Which calls enter an End, a kill or a request that is spent.
use Rattle.std.proofs.Common.{ℕ, ◌≢◌, ◌+◌, ◌==◌, if◌then◌else◌, Bool, true, false, List, [], ◌∷◌, map, All, nat_lt, Option, Some, None, refl}
use Rattle.std.specs.Prelude.{⊤}
use Rattle.std.proofs.lemmas.List.Elements.{All-nil, All-cons, All-append}
use Rattle.sa_ast.specs.declared.kind.AskKind.{AskKind}
use Rattle.sa_ast.specs.declared.kind.KillKind.{KillKind}
use Rattle.sa_count.specs.declared.report.Report.{Report}
use Rattle.sa_meaning.specs.Data.{RunData}
use Rattle.sa_meaning.specs.Progress.{Progress}
use Rattle.sa_plan.specs.declared.plan.Plan.{Plan}
use Rattle.sa_desk.specs.declared.entry.Entry.{Entry}
use Rattle.sa_desk.specs.declared.entry.Event.{Event}
use Rattle.sa_desk.specs.declared.entry.Event.TheVariants as event
use Rattle.sa_desk.specs.declared.answer.Asked.{Asked}
use Rattle.sa_desk.specs.declared.answer.Asked.TheVariants as asked
use Rattle.sa_desk.specs.declared.answer.Killed.{Killed}
use Rattle.sa_desk.specs.declared.answer.Killed.TheVariants as killed
use Rattle.sa_desk.specs.declared.answer.Looked.TheVariants as looked
use Rattle.sa_desk.specs.declared.answer.Polled.{Polled}
use Rattle.sa_desk.specs.declared.answer.Polled.TheVariants as answer
use Rattle.sa_desk.specs.declared.answer.Withdrawn.{Withdrawn}
use Rattle.sa_desk.specs.declared.answer.Withdrawn.TheVariants as withdrawn
use Rattle.sa_desk.specs.declared.outcome.Finish.TheVariants.{Plain}
use Rattle.sa_desk.specs.declared.outcome.Outcome.{Outcome}
use Rattle.sa_desk.specs.declared.request.Request.{Request}
use Rattle.sa_desk.specs.declared.stamp.Stamp.{Stamp}
use Rattle.sa_desk.specs.State.{Phase, idle, unplanned, planned, serving, closed, queue_of}
use Rattle.sa_desk.specs.Contents.{Contents, phase, state, entry_by, later}
use Rattle.sa_desk.specs.Serving.{served_with, report_of}
use Rattle.sa_desk.specs.call.Ask.{ask_answer, ask_event}
use Rattle.sa_desk.specs.call.End.{end_entry, end_entries, served_by, run_of, outcome_of}
use Rattle.sa_desk.specs.call.Kill.{kill_answer, kill_event}
use Rattle.sa_desk.specs.call.Look.{look_answer, look_events, looks_before}
use Rattle.sa_desk.specs.call.Poll.{polled, poll_events}
use Rattle.sa_desk.specs.call.Withdraw as withdraw
use Rattle.sa_desk.specs.program.Turn.{itself, made}
use Rattle.sa_worker.specs.View.{View, Stage, call_at, desk_at}
use Rattle.sa_worker.specs.View as stages

abbrev pub EndsAt : Stage → Type 0
EndsAt (stages.ends result) = ⊤
EndsAt (stages.ends_run chosen so_many run given) = ⊤
EndsAt stage = ⊥

abbrev pub KillsAt : Stage → Type 0
KillsAt (stages.kills kind i) = ⊤
KillsAt stage = ⊥

abbrev pub PollsAt : Stage → Type 0
PollsAt (stages.polls kind i count) = ⊤
PollsAt stage = ⊥

-- An event that the call of this stage may enter, for all that it says of those three.
abbrev pub IsMadeAt : Stage → Event → Type 0
IsMadeAt stage (event.End number outcome steps) = EndsAt stage
IsMadeAt stage (event.KillSent number kind) = KillsAt stage
IsMadeAt stage (event.Spent number turns) = PollsAt stage
IsMadeAt stage event = ⊤

-- No session ends on another's desk.
pub no_end_elsewhere : (view : View) (stage : Stage) → desk_at view stage ≢ view.given.session → EndsAt stage → ⊥
no_end_elsewhere view (stages.ends result) apart ends = apart refl
no_end_elsewhere view (stages.ends_run chosen so_many run given) apart ends = apart refl
no_end_elsewhere view stage apart ends = absurd ends

module _ (desk : Contents) where
  abbrev Are : Stage → List Entry → Type 0
  Are stage entries = All (λ entry. IsMadeAt stage entry.event) entries

  served_at : (stage : Stage) (report : Report) (stamp : Stamp) (queue : List Request) → Are stage (served_with desk report stamp queue)
  served_at stage report stamp [] = All-nil (λ (entry : Entry). IsMadeAt stage entry.event)
  served_at stage report stamp (request ∷ rest) = All-cons (λ (entry : Entry). IsMadeAt stage entry.event) _ _ tt (served_at stage report (later 1 stamp) rest)

  module _ (stamp : Stamp) (number : ℕ) (stage : Stage) where
    one_at : (event : Event) → IsMadeAt stage event → Are stage (entry_by desk stamp event ∷ [])
    one_at event is = All-cons (λ (entry : Entry). IsMadeAt stage entry.event) (entry_by desk stamp event) [] is (All-nil (λ (entry : Entry). IsMadeAt stage entry.event))

    none_at : Are stage []
    none_at = All-nil (λ (entry : Entry). IsMadeAt stage entry.event)

    served_by_at : (run : Option Progress) → Are stage (served_by desk stamp run)
    served_by_at None = none_at
    served_by_at (Some run) = served_at stage (report_of run) stamp (queue_of (phase desk))

    ended_at : (run : Option Progress) (given : Outcome) → EndsAt stage → Are stage (end_entries desk stamp number run given)
    ended_at run given ends =
        let last = end_entry desk stamp number run given in
        All-append (λ (entry : Entry). IsMadeAt stage entry.event) (served_by desk stamp run) (last ∷ []) (served_by_at run)
        (All-cons (λ (entry : Entry). IsMadeAt stage entry.event) last [] ends none_at)

    asked_at : (kind : AskKind) (budget : ℕ) (answer : Asked) → Are stage (entry_by desk stamp (ask_event answer number kind desk.published budget) ∷ [])
    asked_at kind budget asked.Queued = one_at _ tt
    asked_at kind budget asked.NotExplainable = one_at _ tt
    asked_at kind budget asked.NoSuchThread = one_at _ tt

    polled_at : (polled : Polled) → PollsAt stage → Are stage (map (entry_by desk stamp) (poll_events polled number))
    polled_at (answer.Taken report begin) polls = one_at _ tt
    polled_at (answer.Spent turns) polls = one_at _ polls
    polled_at answer.NotYet polls = none_at

    withdrawn_at : (answer : Withdrawn) → Are stage (entry_by desk stamp (withdraw.withdraw_event answer number) ∷ [])
    withdrawn_at withdrawn.Taken = one_at _ tt
    withdrawn_at withdrawn.Removed = one_at _ tt

    killed_at : (kind : KillKind) (answer : Killed) → KillsAt stage → Are stage (entry_by desk stamp (kill_event answer number kind) ∷ [])
    killed_at kind killed.Ok kills = one_at _ kills
    killed_at kind killed.NoSuchThread kills = one_at _ tt

    begun_at : (doomed : Bool) (text : List ℕ) (plan : Option Plan) (tables : Option RunData)
        → Are stage (entry_by desk stamp (if doomed then event.Gone number else event.Begin number text 0 plan tables) ∷ [])
    begun_at true text plan tables = one_at _ tt
    begun_at false text plan tables = one_at _ tt

    open_at : (turns : ℕ) (far last : Bool)
        → Are stage (map (entry_by desk stamp) (look_events (if far then (if last then looked.Spent desk.published turns else looked.NotYet) else looked.Reached desk.published) number))
    open_at turns true true = one_at _ tt
    open_at turns true false = none_at
    open_at turns false last = one_at _ tt

    looked_at : (at count turns : ℕ) (found : Phase) → Are stage (map (entry_by desk stamp) (look_events (look_answer found at desk.published count turns) number))
    looked_at at count turns closed = one_at _ tt
    looked_at at count turns idle = open_at turns (nat_lt desk.published at) (count + 1 == turns)
    looked_at at count turns (unplanned statement) = open_at turns (nat_lt desk.published at) (count + 1 == turns)
    looked_at at count turns (planned statement execution) = open_at turns (nat_lt desk.published at) (count + 1 == turns)
    looked_at at count turns (serving statement execution steps turn) = open_at turns (nat_lt desk.published at) (count + 1 == turns)

  pub made_at : (stamp : Stamp) (view : View) (stage : Stage) → All (λ entry. IsMadeAt stage entry.event) (made desk stamp view.number (call_at view stage))
  made_at stamp view stages.opens = begun_at stamp view.number stages.opens (state desk).doomed _ _ _
  made_at stamp view stages.closes = one_at stamp view.number stages.closes _ tt
  made_at stamp view (stages.ends result) = ended_at stamp view.number (stages.ends result) (run_of itself (Plain result)) (outcome_of itself (Plain result)) tt
  made_at stamp view (stages.asks kind i) = asked_at stamp view.number (stages.asks kind i) kind view.given.turns (ask_answer (phase desk))
  made_at stamp view (stages.polls kind i count) = polled_at stamp view.number (stages.polls kind i count) (polled desk stamp view.number) tt
  made_at stamp view (stages.looks_asking kind i count) = none_at stamp view.number (stages.looks_asking kind i count)
  made_at stamp view (stages.withdraws kind i count) = withdrawn_at stamp view.number (stages.withdraws kind i count) (withdraw.withdrawn desk stamp view.number)
  made_at stamp view (stages.kills kind i) = killed_at stamp view.number (stages.kills kind i) kind (kill_answer (phase desk)) tt
  made_at stamp view (stages.waits i at count) = looked_at stamp view.number (stages.waits i at count) at (looks_before desk stamp view.number at) desk.terms.turns (phase desk)
  made_at stamp view (stages.looks_waiting i at count) = none_at stamp view.number (stages.looks_waiting i at count)
  made_at stamp view (stages.points chosen so_many run) = served_at (stages.points chosen so_many run) (report_of run) stamp (queue_of (phase desk))
  made_at stamp view (stages.ends_run chosen so_many run given) = ended_at stamp view.number (stages.ends_run chosen so_many run given) (run_of itself given) (outcome_of itself given) tt
  made_at stamp view stages.prepares = none_at stamp view.number stages.prepares
  made_at stamp view (stages.makes_steps chosen so_many run) = none_at stamp view.number (stages.makes_steps chosen so_many run)
  made_at stamp view stages.done = none_at stamp view.number stages.done
