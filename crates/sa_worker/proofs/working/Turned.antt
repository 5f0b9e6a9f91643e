-- Each call takes one turn, and private work takes none.
use Rattle.std.proofs.Common.{◌≡◌, ◌≢◌, arith, ℕ, ◌+◌, ◌<◌, ◌^◌, Bool, true, false, refl, ap, ◌∙◌}
use Rattle.sa_ast.specs.declared.kind.AskKind.{AskKind}
use Rattle.sa_plan.specs.declared.plan.Planned.{Planned}
use Rattle.sa_meaning.specs.Progress.{Progress}
use Rattle.sa_desk.specs.declared.answer.Asked.{Asked}
use Rattle.sa_desk.specs.declared.answer.Asked.TheVariants as asked
use Rattle.sa_desk.specs.declared.answer.Killed.{Killed}
use Rattle.sa_desk.specs.declared.answer.Killed.TheVariants as killed
use Rattle.sa_desk.specs.declared.answer.Looked.{Looked}
use Rattle.sa_desk.specs.declared.answer.Looked.TheVariants as looked
use Rattle.sa_desk.specs.declared.answer.Polled.{Polled}
use Rattle.sa_desk.specs.declared.answer.Polled.TheVariants as polled
use Rattle.sa_desk.specs.declared.stamp.Stamp.{Stamp}
use Rattle.sa_desk.specs.Contents.{Contents, state, phase}
use Rattle.sa_desk.specs.Serving.{is_killed}
use Rattle.sa_desk.specs.call.Ask.{ask_answer}
use Rattle.sa_desk.specs.call.Begin.{begin_answer}
use Rattle.sa_desk.specs.call.Kill.{kill_answer}
use Rattle.sa_desk.specs.call.Look as look
use Rattle.sa_desk.specs.call.Point.{point_answer}
use Rattle.sa_desk.specs.call.Poll as poll
use Rattle.sa_desk.specs.program.Prepares.{Answers}
use Rattle.sa_worker.specs.View.{Stage, prepares, makes_steps, opens, closes, ends, asks, polls, looks_asking, withdraws, kills, waits, looks_waiting, points, ends_run, done, View, IsActive}
use Rattle.sa_worker.specs.Next.{after_begin, after_ask, after_poll, after_look_asking, after_kill, after_look, after_look_waiting, after_point, next_at, next_view}
use Rattle.sa_worker.specs.Holds.{HoldsAt}
use Rattle.sa_worker.proofs.Turns.{run_fits, turn_fits}
use Rattle.sa_worker.specs.Works.{Prepares, is_prepared, is_last, Makes, goes_on, stops, WorksAt, Works}

module _ (view : View) where
  abbrev OneMore : View → Type 0
  OneMore later = later.turn ≡ view.turn + 1

  one-begin : (doomed : Bool) → OneMore (after_begin view (begin_answer doomed))
  one-begin true = refl
  one-begin false = refl

  one-ask : (kind : AskKind) (i : ℕ) (answer : Asked) → OneMore (after_ask view kind i answer)
  one-ask kind i asked.Queued = refl
  one-ask kind i asked.NotExplainable = refl
  one-ask kind i asked.NoSuchThread = refl

  one-poll : (kind : AskKind) (i count : ℕ) (answer : Polled) → OneMore (after_poll view kind i count answer)
  one-poll kind i count (polled.Taken report begin) = refl
  one-poll kind i count (polled.Spent turns) = refl
  one-poll kind i count polled.NotYet = refl

  one-look_asking : (kind : AskKind) (i count : ℕ) (killed : Bool) → OneMore (after_look_asking view kind i count (point_answer killed))
  one-look_asking kind i count true = refl
  one-look_asking kind i count false = refl

  one-kill : (answer : Killed) → OneMore (after_kill view answer)
  one-kill killed.Ok = refl
  one-kill killed.NoSuchThread = refl

  one-look : (i at count : ℕ) (answer : Looked) → OneMore (after_look view i at count answer)
  one-look i at count looked.NoSuchThread = refl
  one-look i at count (looked.Reached steps) = refl
  one-look i at count (looked.Spent steps turns) = refl
  one-look i at count looked.NotYet = refl

  one-look_waiting : (i at count : ℕ) (killed : Bool) → OneMore (after_look_waiting view i at count (point_answer killed))
  one-look_waiting i at count true = refl
  one-look_waiting i at count false = refl

  one-point : (planned : Planned) (made : ℕ) (run : Progress) (killed : Bool) → OneMore (after_point view planned made run (point_answer killed))
  one-point planned made run true = refl
  one-point planned made run false = refl

  pub turn_next : (stage : Stage) (desk : Contents) (stamp : Stamp) → IsActive stage → OneMore (next_at view stage desk stamp)
  turn_next prepares desk stamp active = absurd active
  turn_next (makes_steps planned made run) desk stamp active = absurd active
  turn_next opens desk stamp active = one-begin (state desk).doomed
  turn_next closes desk stamp active = refl
  turn_next (ends result) desk stamp active = refl
  turn_next (asks kind i) desk stamp active = one-ask kind i (ask_answer (phase desk))
  turn_next (polls kind i count) desk stamp active = one-poll kind i count (poll.polled desk stamp view.number)
  turn_next (looks_asking kind i count) desk stamp active = one-look_asking kind i count (is_killed (phase desk))
  turn_next (withdraws kind i count) desk stamp active = refl
  turn_next (kills kind i) desk stamp active = one-kill (kill_answer (phase desk))
  turn_next (waits i at count) desk stamp active = one-look i at count (look.looked desk stamp view.number at)
  turn_next (looks_waiting i at count) desk stamp active = one-look_waiting i at count (is_killed (phase desk))
  turn_next (points planned made run) desk stamp active = one-point planned made run (is_killed (phase desk))
  turn_next (ends_run planned made run given) desk stamp active = refl
  turn_next done desk stamp active = absurd active

  module _ (gives : Answers) (later : View) where
    prepared-as : Prepares gives view later → (later.turn ≡ view.turn)
    prepared-as (is_prepared answer there given is) = ap (λ (view : View). view.turn) is
    prepared-as (is_last none is) = ap (λ (view : View). view.turn) is

    made-as : (planned : Planned) (made : ℕ) (run : Progress) → Makes view planned made run later → (later.turn ≡ view.turn)
    made-as planned made run (goes_on after comes full more unfailed is) = ap (λ (view : View). view.turn) is
    made-as planned made run (stops after comes finish analyze of_course so is) = ap (λ (view : View). view.turn) is

    works-as : (stage : Stage) → WorksAt gives view stage later → (later.turn ≡ view.turn)
    works-as prepares work = prepared-as work
    works-as (makes_steps planned made run) work = made-as planned made run work
    works-as stage work = ap (λ (view : View). view.turn) work

    pub turn_works : Works gives view later → (later.turn ≡ view.turn)
    turn_works work = works-as view.stage work

-- A worker that isn't done has turns left.
pub turn_small : (view : View) (stage : Stage) → HoldsAt view stage → stage ≢ done → view.turn + 1 < 2 ^ 64
turn_small view prepares holds undone =
    let there = holds.holds.0 in
    let turn = holds.holds.1 in
    let texts = holds.given.texts in omega (arith, there, turn, texts)
turn_small view (makes_steps planned made run) holds undone = run_fits view planned made holds.given holds.limit holds.holds.0
turn_small view opens holds undone = turn_fits view opens holds tt
turn_small view closes holds undone = turn_fits view closes holds tt
turn_small view (ends result) holds undone = turn_fits view (ends result) holds tt
turn_small view (asks kind i) holds undone = turn_fits view (asks kind i) holds tt
turn_small view (polls kind i count) holds undone = turn_fits view (polls kind i count) holds tt
turn_small view (looks_asking kind i count) holds undone = turn_fits view (looks_asking kind i count) holds tt
turn_small view (withdraws kind i count) holds undone = turn_fits view (withdraws kind i count) holds tt
turn_small view (kills kind i) holds undone = turn_fits view (kills kind i) holds tt
turn_small view (waits i at count) holds undone = turn_fits view (waits i at count) holds tt
turn_small view (looks_waiting i at count) holds undone = turn_fits view (looks_waiting i at count) holds tt
turn_small view (points planned made run) holds undone = turn_fits view (points planned made run) holds tt
turn_small view (ends_run planned made run given) holds undone = turn_fits view (ends_run planned made run given) holds tt
turn_small view done holds undone = absurd (undone refl)

-- A turn is private work and a call.
pub turn_taken : (gives : Answers) (view mid next : View) → Works gives view mid → IsActive mid.stage → (desk : Contents) (stamp : Stamp) → next ≡ next_view mid desk stamp → next.turn ≡ view.turn + 1
turn_taken gives view mid next work active desk stamp is =
    ap (λ (view : View). view.turn) is ∙ turn_next mid mid.stage desk stamp active ∙ ap (λ turn. turn + 1) (turn_works view gives mid work)
