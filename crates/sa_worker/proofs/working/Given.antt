-- The answers that a session's statements had are those of the preparer, turn by turn.
use Rattle.std.proofs.Common.{◌≡◌, ℕ, ◌+◌, ◌-◌, ◌<◌, ◌≤◌, Bool, true, false, List, [], ◌∷◌, ◌++◌, length, refl, sym, subst, arith}
use Rattle.std.specs.Prelude.{slice_index_or}
use Rattle.sa_ast.specs.declared.kind.AskKind.{AskKind}
use Rattle.sa_plan.specs.declared.plan.Planned.{Planned}
use Rattle.sa_meaning.specs.Progress.{Progress}
use Rattle.sa_desk.specs.declared.answer.Asked.{Asked}
use Rattle.sa_desk.specs.declared.answer.Asked.TheVariants as asked
use Rattle.sa_desk.specs.declared.answer.Killed.{Killed}
use Rattle.sa_desk.specs.declared.answer.Killed.TheVariants as killed
use Rattle.sa_desk.specs.declared.answer.Looked.{Looked}
use Rattle.sa_desk.specs.declared.answer.Looked.TheVariants as looked
use Rattle.sa_desk.specs.declared.answer.Polled.{Polled}
use Rattle.sa_desk.specs.declared.answer.Polled.TheVariants as polled
use Rattle.sa_desk.specs.declared.entry.Entry.{Entry}
use Rattle.sa_desk.specs.declared.stamp.Stamp.{Stamp}
use Rattle.sa_desk.specs.Contents.{Contents, state, phase}
use Rattle.sa_desk.specs.Serving.{is_killed}
use Rattle.sa_desk.specs.call.Ask.{ask_answer}
use Rattle.sa_desk.specs.call.Begin.{begin_answer}
use Rattle.sa_desk.specs.call.Kill.{kill_answer}
use Rattle.sa_desk.specs.call.Look as look
use Rattle.sa_desk.specs.call.Point.{point_answer}
use Rattle.sa_desk.specs.call.Poll as poll
use Rattle.sa_desk.specs.program.Course.{Given, Answer, Settings, at_first, settings_after, course_of}
use Rattle.sa_desk.specs.program.Prepares.{Answers, IsAnswer, AreAnswers}
use Rattle.sa_desk.specs.program.Statement.{Statements}
use Rattle.sa_worker.specs.View.{Stage, prepares, makes_steps, opens, closes, ends, asks, polls, looks_asking, withdraws, kills, waits, looks_waiting, points, ends_run, done, View, first_view, IsActive}
use Rattle.sa_worker.specs.Next.{begins, after_begin, after_ask, after_poll, after_look_asking, after_kill, after_look, after_look_waiting, after_point, next_at}
use Rattle.sa_worker.specs.Works.{Prepares, is_prepared, is_last, Makes, goes_on, stops, WorksAt, Works}
use Rattle.sa_worker.specs.Holds.{HoldsAt}
use Rattle.sa_worker.specs.Follows.{FollowsAt, ended_with}
use Rattle.sa_worker.specs.Working.{HasAnswer, WereGiven}
use Rattle.sa_worker.proofs.follows.Begin.{Statements-count}

-- Statements that have ended have an answer each.
Statements-answered : (given : Given) (settings : Settings) (number turn : ℕ) (texts : List (List ℕ)) (answers : List Answer) (entries : List Entry) (left : Settings) (next last : ℕ)
    → Statements given settings number turn texts answers entries left next last → length answers ≡ length texts
Statements-answered given settings number turn [] [] entries left next last is = refl
Statements-answered given settings number turn [] (answer ∷ answers) entries left next last is = absurd is
Statements-answered given settings number turn (text ∷ texts) [] entries left next last is = absurd is
Statements-answered given settings number turn (text ∷ texts) (answer ∷ answers) entries left next last is =
    let more = Statements-answered given (settings_after settings answer is.3) (number + 1) is.2 texts answers is.1 left next last is.6 in omega (arith, more)

-- One answer more, to the next text.
AreAnswers-push : (gives : Answers) (texts : List (List ℕ)) (answers : List Answer) (answer : Answer) → length answers < length texts → AreAnswers gives texts answers
    → IsAnswer gives (slice_index_or texts (length answers) []) answer → AreAnswers gives texts (answers ++ answer ∷ [])
AreAnswers-push gives [] answers answer there all is = absurd (omega arith)
AreAnswers-push gives (text ∷ texts) [] answer there all is = (is, tt)
AreAnswers-push gives (text ∷ texts) (was ∷ answers) answer there all is = (all.0, AreAnswers-push gives texts answers answer (omega arith) all.1 is)

module _ (gives : Answers) where
  pub WereGiven-first : (given : Given) → WereGiven gives (first_view given) prepares []
  WereGiven-first given = record { ended = tt; next = λ has. absurd has }

  module _ (view : View) (stage : Stage) (answers : List Answer) (were : WereGiven gives view stage answers) where
    module _ (has : HasAnswer stage) where
      kept : (settings : Settings) (turn began : ℕ) (next : Stage)
          → (let after : View = record { given = view.given; settings = settings; turn = turn; number = view.number; answer = view.answer; began = began; stage = next } in WereGiven gives after next answers)
      kept settings turn began next = record { ended = were.ended; next = λ still. were.next has }

      abbrev still : Stage → Type 0
      still next = WereGiven gives (record view { turn = view.turn + 1; stage = next }) next answers

      gone_to : (next : Stage) → still next
      gone_to next = kept view.settings (view.turn + 1) view.began next

      abbrev After : View → Type 0
      After later = WereGiven gives later later.stage answers

      given-begin : (doomed : Bool) → After (after_begin view (begin_answer doomed))
      given-begin true = gone_to closes
      given-begin false = kept view.settings (view.turn + 1) (view.turn + 1) (begins view (course_of view.given view.settings view.answer))

      given-ask : (kind : AskKind) (i : ℕ) (answer : Asked) → After (after_ask view kind i answer)
      given-ask kind i asked.Queued = gone_to _
      given-ask kind i asked.NotExplainable = gone_to _
      given-ask kind i asked.NoSuchThread = gone_to _

      given-poll : (kind : AskKind) (i count : ℕ) (answer : Polled) → After (after_poll view kind i count answer)
      given-poll kind i count (polled.Taken report begin) = gone_to _
      given-poll kind i count (polled.Spent turns) = gone_to _
      given-poll kind i count polled.NotYet = gone_to _

      given-look_asking : (kind : AskKind) (i count : ℕ) (killed : Bool) → After (after_look_asking view kind i count (point_answer killed))
      given-look_asking kind i count true = gone_to _
      given-look_asking kind i count false = gone_to _

      given-kill : (answer : Killed) → After (after_kill view answer)
      given-kill killed.Ok = gone_to _
      given-kill killed.NoSuchThread = gone_to _

      given-look : (i at count : ℕ) (answer : Looked) → After (after_look view i at count answer)
      given-look i at count looked.NoSuchThread = gone_to _
      given-look i at count (looked.Reached steps) = gone_to _
      given-look i at count (looked.Spent steps turns) = gone_to _
      given-look i at count looked.NotYet = gone_to _

      given-look_waiting : (i at count : ℕ) (killed : Bool) → After (after_look_waiting view i at count (point_answer killed))
      given-look_waiting i at count true = gone_to _
      given-look_waiting i at count false = gone_to _

      given-point : (planned : Planned) (made : ℕ) (run : Progress) (killed : Bool) → After (after_point view planned made run (point_answer killed))
      given-point planned made run true = gone_to _
      given-point planned made run false = gone_to _

    -- A statement has ended: its answer is one more.
    given-end : HasAnswer stage → view.number ≡ 1 + length answers → view.number ≤ length view.given.texts
        → (settings : Settings) (turn began : ℕ)
        → (let after : View = record { given = view.given; settings = settings; turn = turn; number = view.number + 1; answer = view.answer; began = began; stage = prepares } in
        WereGiven gives after prepares (answers ++ view.answer ∷ []))
    given-end has count there settings turn began =
        let place : view.number - 1 ≡ length answers = omega (arith, count) in
        record {
          ended = AreAnswers-push gives view.given.texts answers view.answer (omega (arith, count, there)) were.ended
              (subst (λ place. IsAnswer gives (slice_index_or view.given.texts place []) view.answer) place (were.next has));
          next = λ still. absurd still;
        }

  -- how many have ended
  count_of : (view : View) (stage : Stage) (journals : ℕ → List Entry) (answers : List Answer) (mine : List Entry) → FollowsAt view stage journals answers mine → view.number ≡ 1 + length answers
  count_of view stage journals answers mine follows =
      let count = Statements-count view.given at_first 1 0 follows.taken answers follows.before view.settings view.number follows.last follows.ended in
      let same = Statements-answered view.given at_first 1 0 follows.taken answers follows.before view.settings view.number follows.last follows.ended in
      omega (arith, count, same)

  pub WereGiven-turn : (view : View) (stage : Stage) (journals : ℕ → List Entry) (answers : List Answer) (mine : List Entry) → IsActive stage → HoldsAt view stage → FollowsAt view stage journals answers mine
      → WereGiven gives view stage answers → (desk : Contents) (stamp : Stamp)
      → (let later = next_at view stage desk stamp in WereGiven gives later later.stage (ended_with view stage answers))
  WereGiven-turn view prepares journals answers mine active holds follows were desk stamp = absurd active
  WereGiven-turn view (makes_steps planned made run) journals answers mine active holds follows were desk stamp = absurd active
  WereGiven-turn view opens journals answers mine active holds follows were desk stamp = given-begin view opens answers were tt (state desk).doomed
  WereGiven-turn view closes journals answers mine active holds follows were desk stamp = record { ended = were.ended; next = λ has. absurd has }
  WereGiven-turn view (ends result) journals answers mine active holds follows were desk stamp =
      given-end view (ends result) answers were tt (count_of view (ends result) journals answers mine follows) holds.holds.2.there _ (view.turn + 1) view.began
  WereGiven-turn view (asks kind i) journals answers mine active holds follows were desk stamp = given-ask view (asks kind i) answers were tt kind i (ask_answer (phase desk))
  WereGiven-turn view (polls kind i count) journals answers mine active holds follows were desk stamp =
      given-poll view (polls kind i count) answers were tt kind i count (poll.polled desk stamp view.number)
  WereGiven-turn view (looks_asking kind i count) journals answers mine active holds follows were desk stamp =
      given-look_asking view (looks_asking kind i count) answers were tt kind i count (is_killed (phase desk))
  WereGiven-turn view (withdraws kind i count) journals answers mine active holds follows were desk stamp = gone_to view (withdraws kind i count) answers were tt _
  WereGiven-turn view (kills kind i) journals answers mine active holds follows were desk stamp = given-kill view (kills kind i) answers were tt (kill_answer (phase desk))
  WereGiven-turn view (waits i at count) journals answers mine active holds follows were desk stamp =
      given-look view (waits i at count) answers were tt i at count (look.looked desk stamp view.number at)
  WereGiven-turn view (looks_waiting i at count) journals answers mine active holds follows were desk stamp =
      given-look_waiting view (looks_waiting i at count) answers were tt i at count (is_killed (phase desk))
  WereGiven-turn view (points planned made run) journals answers mine active holds follows were desk stamp =
      given-point view (points planned made run) answers were tt planned made run (is_killed (phase desk))
  WereGiven-turn view (ends_run planned made run given) journals answers mine active holds follows were desk stamp =
      given-end view (ends_run planned made run given) answers were tt (count_of view (ends_run planned made run given) journals answers mine follows) holds.holds.0.on.there _ (view.turn + 1) view.began
  WereGiven-turn view done journals answers mine active holds follows were desk stamp = absurd active

  module _ (view later : View) (answers : List Answer) where
    prepared-as : WereGiven gives view prepares answers → Prepares gives view later → WereGiven gives later later.stage answers
    prepared-as were (is_prepared answer there given is) =
        subst (λ later. WereGiven gives later later.stage answers) (sym is) (record { ended = were.ended; next = λ has. given })
    prepared-as were (is_last none is) =
        subst (λ later. WereGiven gives later later.stage answers) (sym is) (record { ended = were.ended; next = λ has. absurd has })

    made-as : (planned : Planned) (made : ℕ) (run : Progress) → WereGiven gives view (makes_steps planned made run) answers → Makes view planned made run later → WereGiven gives later later.stage answers
    made-as planned made run were (goes_on after comes full more unfailed is) =
        subst (λ later. WereGiven gives later later.stage answers) (sym is) (record { ended = were.ended; next = λ has. were.next tt })
    made-as planned made run were (stops after comes finish analyze of_course so is) =
        subst (λ later. WereGiven gives later later.stage answers) (sym is) (record { ended = were.ended; next = λ has. were.next tt })

    works-as : (stage : Stage) → WereGiven gives view stage answers → WereGiven gives view view.stage answers → WorksAt gives view stage later → WereGiven gives later later.stage answers
    works-as prepares were same work = prepared-as were work
    works-as (makes_steps planned made run) were same work = made-as planned made run were work
    works-as stage were same work = subst (λ later. WereGiven gives later later.stage answers) (sym work) same

    pub WereGiven-works : WereGiven gives view view.stage answers → Works gives view later → WereGiven gives later later.stage answers
    WereGiven-works were work = works-as view.stage were were work
