-- A session's call leaves of its own answers those that came after its last poll.
use Rattle.std.proofs.Common.{◌≡◌, ◌≢◌, ℕ, ◌+◌, ◌-◌, ◌==◌, ◌≤◌, if◌then◌else◌, Bool, true, false, Option, Some, None, List, [], ◌∷◌, ◌++◌, map, refl, sym, subst, arith}
use Rattle.std.specs.Prelude.{⊤}
use Rattle.std.proofs.lemmas.Bool.{ne_eqb}
use Rattle.std.proofs.lemmas.List.Elements.{All-nil, All-cons}
use Rattle.sa_ast.specs.declared.kind.AskKind.{AskKind}
use Rattle.sa_desk.specs.declared.answer.Asked.{Asked}
use Rattle.sa_desk.specs.declared.answer.Asked.TheVariants as asked
use Rattle.sa_desk.specs.declared.answer.Begun.{Begun}
use Rattle.sa_desk.specs.declared.answer.Begun.TheVariants as begun
use Rattle.sa_desk.specs.declared.answer.Killed.{Killed}
use Rattle.sa_desk.specs.declared.answer.Killed.TheVariants as killed
use Rattle.sa_desk.specs.declared.answer.Looked.{Looked}
use Rattle.sa_desk.specs.declared.answer.Looked.TheVariants as looked
use Rattle.sa_desk.specs.declared.answer.Polled.TheVariants.{Spent, NotYet}
use Rattle.sa_desk.specs.declared.entry.Entry.{Entry}
use Rattle.sa_desk.specs.declared.request.Reply.{Reply}
use Rattle.sa_desk.specs.declared.stamp.Stamp.{Stamp}
use Rattle.sa_desk.specs.State.{idle}
use Rattle.sa_desk.specs.Contents.{Contents, phase, state, entry_by}
use Rattle.sa_desk.specs.Runs.{state_after}
use Rattle.sa_desk.specs.Serving.{is_killed}
use Rattle.sa_desk.specs.call.Ask.{ask_answer, ask_event}
use Rattle.sa_desk.specs.call.Begin.{begin_answer}
use Rattle.sa_desk.specs.call.Kill.{kill_answer}
use Rattle.sa_desk.specs.call.Look as look
use Rattle.sa_desk.specs.call.Point.{point_answer}
use Rattle.sa_desk.specs.call.Poll.{reply_to, poll_answer, poll_events}
use Rattle.sa_desk.specs.program.Course.{Course, says, shows, waits, kills, runs, course_of}
use Rattle.sa_desk.specs.program.Prepares.{Answers}
use Rattle.sa_desk.specs.program.Turn.{made}
use Rattle.sa_desk.proofs.Seats.{HasNone-from_find}
use Rattle.sa_plan.specs.declared.plan.Planned.{Planned}
use Rattle.sa_meaning.specs.Progress.{Progress}
use Rattle.sa_worker.specs.View.{View, Stage, IsActive, call_at, request_at}
use Rattle.sa_worker.specs.View as stages
use Rattle.sa_worker.specs.Next.{begins, next_at, after_ask, after_begin, after_kill, after_look, after_look_asking, after_look_waiting, after_poll, after_point}
use Rattle.sa_worker.specs.Works.{Prepares, is_prepared, is_last, Makes, goes_on, stops, WorksAt, Works}
use Rattle.sa_step.specs.inner.Timely.{polled_at, AreLateFor}
use Rattle.sa_step.proofs.Ends.{MayEndRequest}
use Rattle.sa_step.proofs.Answering.{HasNoReply, none_late, fewer_late, ComesLate, late_along}

-- how many turns it had taken at its last poll
abbrev pub polled_in : View → ℕ
polled_in view = polled_at view view.stage

-- It had taken no more than now.
pub polled_least : (view : View) (stage : Stage) → polled_at view stage ≤ view.turn
polled_least view (stages.polls kind i count) = omega arith
polled_least view (stages.looks_asking kind i count) = omega arith
polled_least view (stages.withdraws kind i count) = omega arith
polled_least view stage = omega arith

-- Where it may end its request it had taken all turns but the last.
pub polled_all : (view : View) (stage : Stage) → MayEndRequest stage → polled_at view stage ≡ view.turn - 1
polled_all view (stages.polls kind i count) may = refl
polled_all view (stages.withdraws kind i count) may = refl
polled_all view stage may = absurd may

-- Private work polls nothing.
module _ (gives : Answers) (view later : View) where
  same_polled : (stage : Stage) → view.stage ≡ stage → later ≡ view → polled_in later ≡ polled_at view stage
  same_polled stage is same = subst (λ stage. polled_in later ≡ polled_at view stage) is (subst (λ (later : View). polled_in later ≡ polled_in view) (sym same) refl)

  prepared_polled : Prepares gives view later → polled_in later ≡ 0
  prepared_polled (is_prepared answer there given is) = subst (λ (later : View). polled_in later ≡ 0) (sym is) refl
  prepared_polled (is_last none is) = subst (λ (later : View). polled_in later ≡ 0) (sym is) refl

  stepped_polled : (chosen : Planned) (points : ℕ) (run : Progress) → Makes view chosen points run later → polled_in later ≡ 0
  stepped_polled chosen points run (goes_on after comes full more unfailed is) = subst (λ (later : View). polled_in later ≡ 0) (sym is) refl
  stepped_polled chosen points run (stops after comes finish analyze of_course so is) = subst (λ (later : View). polled_in later ≡ 0) (sym is) refl

  work_polled : (stage : Stage) → view.stage ≡ stage → WorksAt gives view stage later → polled_in later ≡ polled_at view stage
  work_polled stages.prepares is work = prepared_polled work
  work_polled (stages.makes_steps chosen points run) is work = stepped_polled chosen points run work
  work_polled stages.opens is work = same_polled stages.opens is work
  work_polled stages.closes is work = same_polled stages.closes is work
  work_polled stages.done is work = same_polled stages.done is work
  work_polled (stages.ends result) is work = same_polled (stages.ends result) is work
  work_polled (stages.asks kind i) is work = same_polled (stages.asks kind i) is work
  work_polled (stages.polls kind i count) is work = same_polled (stages.polls kind i count) is work
  work_polled (stages.looks_asking kind i count) is work = same_polled (stages.looks_asking kind i count) is work
  work_polled (stages.withdraws kind i count) is work = same_polled (stages.withdraws kind i count) is work
  work_polled (stages.kills kind i) is work = same_polled (stages.kills kind i) is work
  work_polled (stages.waits i at count) is work = same_polled (stages.waits i at count) is work
  work_polled (stages.looks_waiting i at count) is work = same_polled (stages.looks_waiting i at count) is work
  work_polled (stages.points chosen points run) is work = same_polled (stages.points chosen points run) is work
  work_polled (stages.ends_run chosen points run given) is work = same_polled (stages.ends_run chosen points run given) is work

  pub works_polled : Works gives view later → polled_in later ≡ polled_in view
  works_polled work = work_polled view.stage refl work

-- A stage after which no answer is looked for.
abbrev LooksForNone : Stage → Type 0
LooksForNone (stages.asks kind i) = ⊥
LooksForNone (stages.polls kind i count) = ⊥
LooksForNone (stages.looks_asking kind i count) = ⊥
LooksForNone stage = ⊤

module _ (view : View) where
  course_unpolled : (course : Course) → polled_at (record view { turn = view.turn + 1; began = view.turn + 1; stage = begins view course }) (begins view course) ≡ 0
  course_unpolled (says result) = refl
  course_unpolled (shows kind i) = refl
  course_unpolled (waits i at) = refl
  course_unpolled (kills kind i) = refl
  course_unpolled (runs analyze chosen) = refl

  begun_unpolled : (answer : Begun) → polled_in (after_begin view answer) ≡ 0
  begun_unpolled begun.Ok = course_unpolled (course_of view.given view.settings view.answer)
  begun_unpolled begun.Gone = refl

  killed_unpolled : (answer : Killed) → polled_in (after_kill view answer) ≡ 0
  killed_unpolled killed.Ok = refl
  killed_unpolled killed.NoSuchThread = refl

  looked_unpolled : (i at count : ℕ) (answer : Looked) → polled_in (after_look view i at count answer) ≡ 0
  looked_unpolled i at count looked.NoSuchThread = refl
  looked_unpolled i at count (looked.Reached steps) = refl
  looked_unpolled i at count (looked.Spent steps turns) = refl
  looked_unpolled i at count looked.NotYet = refl

  waited_unpolled : (i at count : ℕ) (killed : Bool) → polled_in (after_look_waiting view i at count (point_answer killed)) ≡ 0
  waited_unpolled i at count true = refl
  waited_unpolled i at count false = refl

  pointed_unpolled : (chosen : Planned) (points : ℕ) (run : Progress) (killed : Bool) → polled_in (after_point view chosen points run (point_answer killed)) ≡ 0
  pointed_unpolled chosen points run true = refl
  pointed_unpolled chosen points run false = refl

  module _ (desk : Contents) (stamp : Stamp) where
    unpolled : (stage : Stage) → IsActive stage → LooksForNone stage → polled_in (next_at view stage desk stamp) ≡ 0
    unpolled stages.opens active none = begun_unpolled (begin_answer (state desk).doomed)
    unpolled stages.closes active none = refl
    unpolled (stages.ends result) active none = refl
    unpolled (stages.withdraws kind i count) active none = refl
    unpolled (stages.kills kind i) active none = killed_unpolled (kill_answer (phase desk))
    unpolled (stages.waits i at count) active none = looked_unpolled i at count (look.looked desk stamp view.number at)
    unpolled (stages.looks_waiting i at count) active none = waited_unpolled i at count (is_killed (phase desk))
    unpolled (stages.points chosen points run) active none = pointed_unpolled chosen points run (is_killed (phase desk))
    unpolled (stages.ends_run chosen points run given) active none = refl
    unpolled (stages.asks kind i) active none = absurd none
    unpolled (stages.polls kind i count) active none = absurd none
    unpolled (stages.looks_asking kind i count) active none = absurd none
    unpolled stages.prepares active none = absurd active
    unpolled (stages.makes_steps chosen points run) active none = absurd active
    unpolled stages.done active none = absurd active

  -- At a look between two polls nothing is polled.
  between_polls : (kind : AskKind) (i count : ℕ) (killed : Bool) → polled_in (after_look_asking view kind i count (point_answer killed)) ≤ view.turn
  between_polls kind i count true = omega arith
  between_polls kind i count false = omega arith

module _ (slot : (session turn : ℕ) → ℕ) (view : View) (desk : Contents) (stamp : Stamp) where
  -- Elsewhere nothing changes.
  module _ (number : ℕ) (replies : List Reply) (journal : List Entry) where
    abbrev AreLate : ℕ → Type 0
    AreLate turns = AreLateFor slot stamp.actor turns replies journal

    rests_elsewhere : (stage : Stage) → IsActive stage → LooksForNone stage → AreLate (polled_at view stage) → AreLate (polled_in (next_at view stage desk stamp))
    rests_elsewhere stage active none late =
        subst AreLate (sym (unpolled view desk stamp stage active none)) (fewer_late slot stamp.actor (polled_at view stage) 0 replies journal (omega arith) late)

    pub own_elsewhere : (stage : Stage) → IsActive stage → number ≢ stages.desk_at view stage → (request_at view stage number ≡ None → HasNoReply stamp.actor replies)
        → AreLate (polled_at view stage) → AreLate (polled_in (next_at view stage desk stamp))
    own_elsewhere (stages.asks kind i) active apart none late = none_late slot stamp.actor _ replies journal (none refl)
    own_elsewhere (stages.polls kind i count) active apart none late =
        let other : (number == i) ≡ false = ne_eqb number i apart in none_late slot stamp.actor _ replies journal (none (rw other refl))
    own_elsewhere (stages.looks_asking kind i count) active apart none late =
        fewer_late slot stamp.actor view.turn _ replies journal (between_polls view kind i count (is_killed (phase desk))) late
    own_elsewhere stages.opens active apart none late = rests_elsewhere stages.opens active tt late
    own_elsewhere stages.closes active apart none late = rests_elsewhere stages.closes active tt late
    own_elsewhere (stages.ends result) active apart none late = rests_elsewhere (stages.ends result) active tt late
    own_elsewhere (stages.withdraws kind i count) active apart none late = rests_elsewhere (stages.withdraws kind i count) active tt late
    own_elsewhere (stages.kills kind i) active apart none late = rests_elsewhere (stages.kills kind i) active tt late
    own_elsewhere (stages.waits i at count) active apart none late = rests_elsewhere (stages.waits i at count) active tt late
    own_elsewhere (stages.looks_waiting i at count) active apart none late = rests_elsewhere (stages.looks_waiting i at count) active tt late
    own_elsewhere (stages.points chosen points run) active apart none late = rests_elsewhere (stages.points chosen points run) active tt late
    own_elsewhere (stages.ends_run chosen points run given) active apart none late = rests_elsewhere (stages.ends_run chosen points run given) active tt late
    own_elsewhere stages.prepares active apart none late = absurd active
    own_elsewhere (stages.makes_steps chosen points run) active apart none late = absurd active
    own_elsewhere stages.done active apart none late = absurd active

  -- At the desk that it calls.
  abbrev replies : List Reply
  replies = (state desk).replies

  abbrev Late : ℕ → Type 0
  Late turns = AreLateFor slot stamp.actor turns replies desk.journal

  abbrev LateAfter : ℕ → List Entry → Type 0
  LateAfter turns entries = AreLateFor slot stamp.actor turns (state_after desk.terms (state desk) entries).replies (desk.journal ++ entries)

  late_none : (turns : ℕ) → Late turns → LateAfter turns []
  late_none turns late = late_along slot stamp.actor desk.terms turns (state desk) desk.journal [] (All-nil (ComesLate slot stamp.actor desk.terms turns)) late

  late_from_none : (entries : List Entry) → Late 0 → LateAfter 0 entries
  late_from_none entries late =
      late_along slot stamp.actor desk.terms 0 (state desk) desk.journal entries (λ k d there number report is turn low high. absurd (omega (arith, low, high))) late

  rests_called : (stage : Stage) → IsActive stage → LooksForNone stage → Late (polled_at view stage) → (entries : List Entry) → LateAfter (polled_in (next_at view stage desk stamp)) entries
  rests_called stage active none late entries =
      subst (λ turns. LateAfter turns entries) (sym (unpolled view desk stamp stage active none))
      (late_from_none entries (fewer_late slot stamp.actor (polled_at view stage) 0 replies desk.journal (omega arith) late))

  asked_called : (kind : AskKind) (i budget : ℕ) (answer : Asked) → HasNoReply stamp.actor replies
      → LateAfter (polled_in (after_ask view kind i answer)) (entry_by desk stamp (ask_event answer view.number kind desk.published budget) ∷ [])
  asked_called kind i budget asked.Queued none =
      let turns = view.turn + 1 - 1 in
      late_along slot stamp.actor desk.terms turns (state desk) desk.journal _
      (All-cons (ComesLate slot stamp.actor desk.terms turns) _ [] (λ number report is. absurd cc) (All-nil (ComesLate slot stamp.actor desk.terms turns)))
      (none_late slot stamp.actor turns replies desk.journal none)
  asked_called kind i budget asked.NotExplainable none = late_from_none _ (none_late slot stamp.actor 0 replies desk.journal none)
  asked_called kind i budget asked.NoSuchThread none = late_from_none _ (none_late slot stamp.actor 0 replies desk.journal none)

  unanswered_called : (kind : AskKind) (i count turns : ℕ) (last : Bool) → HasNoReply stamp.actor replies
      → LateAfter (polled_in (after_poll view kind i count (if last then Spent turns else NotYet))) (map (entry_by desk stamp) (poll_events (if last then Spent turns else NotYet) view.number))
  unanswered_called kind i count turns true none = late_from_none _ (none_late slot stamp.actor 0 replies desk.journal none)
  unanswered_called kind i count turns false none = late_none (view.turn + 1) (none_late slot stamp.actor (view.turn + 1) replies desk.journal none)

  polled_called : (kind : AskKind) (i count polls turns : ℕ) (found : Option Reply) → reply_to stamp.actor replies ≡ found → Late (view.turn - 1)
      → LateAfter (polled_in (after_poll view kind i count (poll_answer found polls turns))) (map (entry_by desk stamp) (poll_events (poll_answer found polls turns) view.number))
  polled_called kind i count polls turns (Some reply) is late = late_from_none _ (fewer_late slot stamp.actor (view.turn - 1) 0 replies desk.journal (omega arith) late)
  polled_called kind i count polls turns None is late = unanswered_called kind i count turns (polls + 1 == turns) (HasNone-from_find idle replies stamp.actor refl is).1

  pub own_called : (number : ℕ) (stage : Stage) → IsActive stage → (request_at view stage number ≡ None → HasNoReply stamp.actor replies)
      → Late (polled_at view stage) → LateAfter (polled_in (next_at view stage desk stamp)) (made desk stamp view.number (call_at view stage))
  own_called number (stages.asks kind i) active none late = asked_called kind i view.given.turns (ask_answer (phase desk)) (none refl)
  own_called number (stages.polls kind i count) active none late = polled_called kind i count _ desk.terms.turns (reply_to stamp.actor replies) refl late
  own_called number (stages.looks_asking kind i count) active none late =
      late_none _ (fewer_late slot stamp.actor view.turn _ replies desk.journal (between_polls view kind i count (is_killed (phase desk))) late)
  own_called number stages.opens active none late = rests_called stages.opens active tt late _
  own_called number stages.closes active none late = rests_called stages.closes active tt late _
  own_called number (stages.ends result) active none late = rests_called (stages.ends result) active tt late _
  own_called number (stages.withdraws kind i count) active none late = rests_called (stages.withdraws kind i count) active tt late _
  own_called number (stages.kills kind i) active none late = rests_called (stages.kills kind i) active tt late _
  own_called number (stages.waits i at count) active none late = rests_called (stages.waits i at count) active tt late _
  own_called number (stages.looks_waiting i at count) active none late = rests_called (stages.looks_waiting i at count) active tt late _
  own_called number (stages.points chosen points run) active none late = rests_called (stages.points chosen points run) active tt late _
  own_called number (stages.ends_run chosen points run given) active none late = rests_called (stages.ends_run chosen points run given) active tt late _
  own_called number stages.prepares active none late = absurd active
  own_called number (stages.makes_steps chosen points run) active none late = absurd active
  own_called number stages.done active none late = absurd active
