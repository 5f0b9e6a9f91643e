-- What is fixed for a session stays.
use Rattle.std.proofs.Common.{◌≡◌, ℕ, Bool, true, false, refl, ap}
use Rattle.sa_ast.specs.declared.kind.AskKind.{AskKind}
use Rattle.sa_plan.specs.declared.plan.Planned.{Planned}
use Rattle.sa_meaning.specs.Progress.{Progress}
use Rattle.sa_desk.specs.declared.answer.Asked.{Asked}
use Rattle.sa_desk.specs.declared.answer.Asked.TheVariants as asked
use Rattle.sa_desk.specs.declared.answer.Killed.{Killed}
use Rattle.sa_desk.specs.declared.answer.Killed.TheVariants as killed
use Rattle.sa_desk.specs.declared.answer.Looked.{Looked}
use Rattle.sa_desk.specs.declared.answer.Looked.TheVariants as looked
use Rattle.sa_desk.specs.declared.answer.Polled.{Polled}
use Rattle.sa_desk.specs.declared.answer.Polled.TheVariants as polled
use Rattle.sa_desk.specs.declared.stamp.Stamp.{Stamp}
use Rattle.sa_desk.specs.Contents.{Contents, state, phase}
use Rattle.sa_desk.specs.Serving.{is_killed}
use Rattle.sa_desk.specs.call.Ask.{ask_answer}
use Rattle.sa_desk.specs.call.Begin.{begin_answer}
use Rattle.sa_desk.specs.call.Kill.{kill_answer}
use Rattle.sa_desk.specs.call.Look as look
use Rattle.sa_desk.specs.call.Point.{point_answer}
use Rattle.sa_desk.specs.call.Poll as poll
use Rattle.sa_desk.specs.program.Prepares.{Answers}
use Rattle.sa_worker.specs.View.{Stage, prepares, makes_steps, opens, closes, ends, asks, polls, looks_asking, withdraws, kills, waits, looks_waiting, points, ends_run, done, View}
use Rattle.sa_worker.specs.Next.{after_begin, after_ask, after_poll, after_look_asking, after_kill, after_look, after_look_waiting, after_point, next_at}
use Rattle.sa_worker.specs.Works.{Prepares, is_prepared, is_last, Makes, goes_on, stops, WorksAt, Works}

module _ (view : View) where
  abbrev Same : View → Type 0
  Same later = later.given ≡ view.given

  same-begin : (doomed : Bool) → Same (after_begin view (begin_answer doomed))
  same-begin true = refl
  same-begin false = refl

  same-ask : (kind : AskKind) (i : ℕ) (answer : Asked) → Same (after_ask view kind i answer)
  same-ask kind i asked.Queued = refl
  same-ask kind i asked.NotExplainable = refl
  same-ask kind i asked.NoSuchThread = refl

  same-poll : (kind : AskKind) (i count : ℕ) (answer : Polled) → Same (after_poll view kind i count answer)
  same-poll kind i count (polled.Taken report begin) = refl
  same-poll kind i count (polled.Spent turns) = refl
  same-poll kind i count polled.NotYet = refl

  same-look_asking : (kind : AskKind) (i count : ℕ) (killed : Bool) → Same (after_look_asking view kind i count (point_answer killed))
  same-look_asking kind i count true = refl
  same-look_asking kind i count false = refl

  same-kill : (answer : Killed) → Same (after_kill view answer)
  same-kill killed.Ok = refl
  same-kill killed.NoSuchThread = refl

  same-look : (i at count : ℕ) (answer : Looked) → Same (after_look view i at count answer)
  same-look i at count looked.NoSuchThread = refl
  same-look i at count (looked.Reached steps) = refl
  same-look i at count (looked.Spent steps turns) = refl
  same-look i at count looked.NotYet = refl

  same-look_waiting : (i at count : ℕ) (killed : Bool) → Same (after_look_waiting view i at count (point_answer killed))
  same-look_waiting i at count true = refl
  same-look_waiting i at count false = refl

  same-point : (planned : Planned) (made : ℕ) (run : Progress) (killed : Bool) → Same (after_point view planned made run (point_answer killed))
  same-point planned made run true = refl
  same-point planned made run false = refl

  pub given_next : (stage : Stage) (desk : Contents) (stamp : Stamp) → Same (next_at view stage desk stamp)
  given_next prepares desk stamp = refl
  given_next (makes_steps planned made run) desk stamp = refl
  given_next opens desk stamp = same-begin (state desk).doomed
  given_next closes desk stamp = refl
  given_next (ends result) desk stamp = refl
  given_next (asks kind i) desk stamp = same-ask kind i (ask_answer (phase desk))
  given_next (polls kind i count) desk stamp = same-poll kind i count (poll.polled desk stamp view.number)
  given_next (looks_asking kind i count) desk stamp = same-look_asking kind i count (is_killed (phase desk))
  given_next (withdraws kind i count) desk stamp = refl
  given_next (kills kind i) desk stamp = same-kill (kill_answer (phase desk))
  given_next (waits i at count) desk stamp = same-look i at count (look.looked desk stamp view.number at)
  given_next (looks_waiting i at count) desk stamp = same-look_waiting i at count (is_killed (phase desk))
  given_next (points planned made run) desk stamp = same-point planned made run (is_killed (phase desk))
  given_next (ends_run planned made run given) desk stamp = refl
  given_next done desk stamp = refl

  module _ (gives : Answers) (later : View) where
    prepared-as : Prepares gives view later → Same later
    prepared-as (is_prepared answer there given is) = ap (λ (view : View). view.given) is
    prepared-as (is_last none is) = ap (λ (view : View). view.given) is

    made-as : (planned : Planned) (made : ℕ) (run : Progress) → Makes view planned made run later → Same later
    made-as planned made run (goes_on after comes full more unfailed is) = ap (λ (view : View). view.given) is
    made-as planned made run (stops after comes finish analyze of_course so is) = ap (λ (view : View). view.given) is

    works-as : (stage : Stage) → WorksAt gives view stage later → Same later
    works-as prepares work = prepared-as work
    works-as (makes_steps planned made run) work = made-as planned made run work
    works-as stage work = ap (λ (view : View). view.given) work

    pub given_works : Works gives view later → Same later
    given_works work = works-as view.stage work
