-- The entries of one call: all are of the call's turn, and a request or a wait tells what is published.
use Rattle.std.proofs.Common.{◌≡◌, ℕ, ◌+◌, ◌==◌, if◌then◌else◌, Bool, true, false, List, [], ◌∷◌, ◌++◌, map, All, nat_lt, Option, Some, None, refl}
use Rattle.std.proofs.lemmas.List.Elements.{All-nil, All-cons, All-append, All-map, All-head, All-tail}
use Rattle.sa_ast.specs.declared.kind.AskKind.{AskKind}
use Rattle.sa_ast.specs.declared.kind.KillKind.{KillKind}
use Rattle.sa_count.specs.declared.report.Report.{Report}
use Rattle.sa_meaning.specs.Progress.{Progress}
use Rattle.sa_desk.specs.declared.entry.Entry.{Entry}
use Rattle.sa_desk.specs.declared.entry.Event.{Event}
use Rattle.sa_desk.specs.declared.entry.Event.TheVariants.{Gone, Close}
use Rattle.sa_desk.specs.declared.outcome.Outcome.{Outcome}
use Rattle.sa_desk.specs.declared.outcome.Finish.TheVariants.{Plain}
use Rattle.sa_desk.specs.declared.answer.Asked.{Asked}
use Rattle.sa_desk.specs.declared.answer.Asked.TheVariants as asked
use Rattle.sa_desk.specs.declared.answer.Killed.{Killed}
use Rattle.sa_desk.specs.declared.answer.Killed.TheVariants as killed
use Rattle.sa_desk.specs.declared.answer.Polled.{Polled}
use Rattle.sa_desk.specs.declared.answer.Polled.TheVariants as answer
use Rattle.sa_desk.specs.declared.answer.Looked.TheVariants as looked
use Rattle.sa_desk.specs.declared.answer.Withdrawn.{Withdrawn}
use Rattle.sa_desk.specs.declared.answer.Withdrawn.TheVariants as withdrawn
use Rattle.sa_desk.specs.declared.request.Request.{Request}
use Rattle.sa_desk.specs.declared.stamp.Stamp.{Stamp}
use Rattle.sa_desk.specs.State.{Terms, Phase, idle, unplanned, planned, serving, closed, queue_of}
use Rattle.sa_desk.specs.Runs.{state_of}
use Rattle.sa_desk.specs.Contents.{Contents, phase, state, entry_by, later}
use Rattle.sa_desk.specs.Serving.{served_with, report_of}
use Rattle.sa_desk.specs.call.Ask.{ask_answer, ask_event}
use Rattle.sa_desk.specs.call.End.{end_entry, end_entries, served_by, run_of, outcome_of}
use Rattle.sa_desk.specs.call.Kill.{kill_answer, kill_event}
use Rattle.sa_desk.specs.call.Look as look
use Rattle.sa_desk.specs.call.Look.{look_answer, look_events, looks_before}
use Rattle.sa_desk.specs.call.Poll.{polled, poll_events}
use Rattle.sa_desk.specs.call.Withdraw as withdraw
use Rattle.sa_desk.specs.program.Turn.{Call, begins, points, looks_own, ends, asks, polls, withdraws, kills, looks, closes, itself, made}
use Rattle.sa_worker.specs.View.{View, Stage, call_at}
use Rattle.sa_worker.specs.View as stages
use Rattle.sa_step.specs.Schedule.{AreEach, slot_of, IsCounted, IsNumbered, FindsCounted}

module _ (desk : Contents) where
  abbrev IsIn : ℕ → Entry → Type 0
  IsIn turn entry = entry.turn ≡ turn

  served_in : (report : Report) (stamp : Stamp) (queue : List Request) → All (IsIn stamp.turn) (served_with desk report stamp queue)
  served_in report stamp [] = All-nil (IsIn stamp.turn)
  served_in report stamp (request ∷ rest) = All-cons (IsIn stamp.turn) _ _ refl (served_in report (later 1 stamp) rest)

  module _ (stamp : Stamp) where
    one_in : (event : Event) → All (IsIn stamp.turn) (entry_by desk stamp event ∷ [])
    one_in event = All-cons (IsIn stamp.turn) (entry_by desk stamp event) [] refl (All-nil (IsIn stamp.turn))

    some_in : (events : List Event) → All (IsIn stamp.turn) (map (entry_by desk stamp) events)
    some_in events = All-map (IsIn stamp.turn) (entry_by desk stamp) events (λ k d there. refl)

    served_by_in : (run : Option Progress) → All (IsIn stamp.turn) (served_by desk stamp run)
    served_by_in None = All-nil (IsIn stamp.turn)
    served_by_in (Some run) = served_in (report_of run) stamp (queue_of (phase desk))

    -- All are made in the turn of the call.
    pub made_in : (number : ℕ) (call : Call) → All (IsIn stamp.turn) (made desk stamp number call)
    made_in number (begins event version plan tables) = one_in (if (state desk).doomed then Gone number else event)
    made_in number (points run) = served_in (report_of run) stamp (queue_of (phase desk))
    made_in number looks_own = All-nil (IsIn stamp.turn)
    made_in number (ends finish) =
        let run = run_of itself finish in
        let last = end_entry desk stamp number run (outcome_of itself finish) in
        All-append (IsIn stamp.turn) (served_by desk stamp run) (last ∷ []) (served_by_in run) (All-cons (IsIn stamp.turn) last [] refl (All-nil (IsIn stamp.turn)))
    made_in number (asks kind budget) = one_in (ask_event (ask_answer (phase desk)) number kind desk.published budget)
    made_in number polls = some_in (poll_events (polled desk stamp number) number)
    made_in number withdraws = one_in (withdraw.withdraw_event (withdraw.withdrawn desk stamp number) number)
    made_in number (kills kind) = one_in (kill_event (kill_answer (phase desk)) number kind)
    made_in number (looks at budget) = some_in (look_events (look.looked desk stamp number at) number)
    made_in number closes = one_in Close

-- An event that tells no number.
abbrev IsSilent : (slot : (session turn : ℕ) → ℕ) → Terms → Event → Type 0
IsSilent slot terms event = (phase : Phase) (place : ℕ) → IsNumbered slot terms phase place event

module _ (slot : (session turn : ℕ) → ℕ) (terms : Terms) where
  silent : (before entries : List Entry) → All (λ entry. IsSilent slot terms entry.event) entries → AreEach (FindsCounted slot terms) before entries
  silent before [] all = tt
  silent before (entry ∷ rest) all = (
    All-head (λ entry. IsSilent slot terms entry.event) entry rest all (state_of terms before).phase (slot_of slot entry),
    silent (before ++ entry ∷ []) rest (All-tail (λ entry. IsSilent slot terms entry.event) entry rest all),
  )

  module _ (desk : Contents) (stamp : Stamp) where
    abbrev AreCounted : List Entry → Type 0
    AreCounted entries = AreEach (FindsCounted slot terms) desk.journal entries

    served_silent : (report : Report) (stamp : Stamp) (queue : List Request) → All (λ entry. IsSilent slot terms entry.event) (served_with desk report stamp queue)
    served_silent report stamp [] = All-nil (λ (entry : Entry). IsSilent slot terms entry.event)
    served_silent report stamp (request ∷ rest) = All-cons (λ (entry : Entry). IsSilent slot terms entry.event) _ _ (λ phase place. tt) (served_silent report (later 1 stamp) rest)

    one_silent : (event : Event) → IsSilent slot terms event → AreCounted (entry_by desk stamp event ∷ [])
    one_silent event is = (is (state_of terms desk.journal).phase (slot stamp.actor stamp.turn), tt)

    served_counted : (report : Report) (queue : List Request) → AreCounted (served_with desk report stamp queue)
    served_counted report queue = silent desk.journal (served_with desk report stamp queue) (served_silent report stamp queue)

    served_by_silent : (run : Option Progress) → All (λ entry. IsSilent slot terms entry.event) (served_by desk stamp run)
    served_by_silent None = All-nil (λ (entry : Entry). IsSilent slot terms entry.event)
    served_by_silent (Some run) = served_silent (report_of run) stamp (queue_of (phase desk))

    ended_counted : (number : ℕ) (run : Option Progress) (given : Outcome) → AreCounted (end_entries desk stamp number run given)
    ended_counted number run given =
        let last = end_entry desk stamp number run given in
        silent desk.journal (served_by desk stamp run ++ last ∷ [])
        (All-append (λ entry. IsSilent slot terms entry.event) (served_by desk stamp run) (last ∷ []) (served_by_silent run)
        (All-cons (λ entry. IsSilent slot terms entry.event) last [] (λ phase place. tt) (All-nil (λ entry. IsSilent slot terms entry.event))))

    begun_silent : (doomed : Bool) (number : ℕ) (event : Event) → IsSilent slot terms event → IsSilent slot terms (if doomed then Gone number else event)
    begun_silent true number event is = λ phase place. tt
    begun_silent false number event is = is

    polled_counted : (number : ℕ) (polled : Polled) → AreCounted (map (entry_by desk stamp) (poll_events polled number))
    polled_counted number (answer.Taken report begin) = (tt, tt)
    polled_counted number (answer.Spent turns) = (tt, tt)
    polled_counted number answer.NotYet = tt

    withdrawn_counted : (number : ℕ) (answer : Withdrawn) → AreCounted (entry_by desk stamp (withdraw.withdraw_event answer number) ∷ [])
    withdrawn_counted number withdrawn.Taken = (tt, tt)
    withdrawn_counted number withdrawn.Removed = (tt, tt)

    killed_counted : (number : ℕ) (kind : KillKind) (answer : Killed) → AreCounted (entry_by desk stamp (kill_event answer number kind) ∷ [])
    killed_counted number kind killed.Ok = (tt, tt)
    killed_counted number kind killed.NoSuchThread = (tt, tt)

    module _ (counted : IsCounted slot terms (state_of terms desk.journal).phase (slot stamp.actor stamp.turn) desk.published) where
      asked_counted : (number : ℕ) (kind : AskKind) (budget : ℕ) (answer : Asked) → AreCounted (entry_by desk stamp (ask_event answer number kind desk.published budget) ∷ [])
      asked_counted number kind budget asked.Queued = (counted, tt)
      asked_counted number kind budget asked.NotExplainable = (tt, tt)
      asked_counted number kind budget asked.NoSuchThread = (tt, tt)

      open_counted : (number turns : ℕ) (far last : Bool)
          → AreCounted (map (entry_by desk stamp) (look_events (if far then (if last then looked.Spent desk.published turns else looked.NotYet) else looked.Reached desk.published) number))
      open_counted number turns true true = (counted, tt)
      open_counted number turns true false = tt
      open_counted number turns false last = (counted, tt)

      looked_counted : (number at count turns : ℕ) (found : Phase) → AreCounted (map (entry_by desk stamp) (look_events (look_answer found at desk.published count turns) number))
      looked_counted number at count turns closed = (tt, tt)
      looked_counted number at count turns idle = open_counted number turns (nat_lt desk.published at) (count + 1 == turns)
      looked_counted number at count turns (unplanned statement) = open_counted number turns (nat_lt desk.published at) (count + 1 == turns)
      looked_counted number at count turns (planned statement execution) = open_counted number turns (nat_lt desk.published at) (count + 1 == turns)
      looked_counted number at count turns (serving statement execution steps turn) = open_counted number turns (nat_lt desk.published at) (count + 1 == turns)

      -- What a stage's call enters tells what is counted.
      pub made_counted : (view : View) (stage : Stage) → AreCounted (made desk stamp view.number (call_at view stage))
      made_counted view stages.opens = one_silent _ (begun_silent (state desk).doomed view.number _ (λ phase place. tt))
      made_counted view stages.closes = one_silent Close (λ phase place. tt)
      made_counted view (stages.ends result) = ended_counted view.number (run_of itself (Plain result)) (outcome_of itself (Plain result))
      made_counted view (stages.asks kind i) = asked_counted view.number kind view.given.turns (ask_answer (phase desk))
      made_counted view (stages.polls kind i count) = polled_counted view.number (polled desk stamp view.number)
      made_counted view (stages.looks_asking kind i count) = tt
      made_counted view (stages.withdraws kind i count) = withdrawn_counted view.number (withdraw.withdrawn desk stamp view.number)
      made_counted view (stages.kills kind i) = killed_counted view.number kind (kill_answer (phase desk))
      made_counted view (stages.waits i at count) = looked_counted view.number at (looks_before desk stamp view.number at) desk.terms.turns (phase desk)
      made_counted view (stages.looks_waiting i at count) = tt
      made_counted view (stages.points chosen points_made run) = served_counted (report_of run) (queue_of (phase desk))
      made_counted view (stages.ends_run chosen points_made run given) = ended_counted view.number (run_of itself given) (outcome_of itself given)
      made_counted view stages.prepares = tt
      made_counted view (stages.makes_steps chosen points_made run) = tt
      made_counted view stages.done = tt
