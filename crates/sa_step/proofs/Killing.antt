-- What the stages and the courses of a KILL, a SHOW and a run tell of a call.
use Rattle.std.proofs.Common.{◌≡◌, ℕ, ◌+◌, List, refl, sym, subst, Bool}
use Rattle.std.specs.Prelude.{⊤}
use Rattle.sa_ast.specs.declared.kind.AskKind.{AskKind}
use Rattle.sa_plan.specs.declared.plan.Planned.{Planned}
use Rattle.sa_desk.specs.declared.answer.Killed.{Killed}
use Rattle.sa_desk.specs.declared.answer.Killed.TheVariants as killed
use Rattle.sa_desk.specs.declared.entry.Entry.{Entry}
use Rattle.sa_desk.specs.declared.entry.Event.{Event}
use Rattle.sa_desk.specs.declared.entry.Event.TheVariants.{KillSent, Spent}
use Rattle.sa_desk.specs.declared.stamp.Stamp.{Stamp}
use Rattle.sa_desk.specs.State.{Terms}
use Rattle.sa_desk.specs.Contents.{Contents, phase}
use Rattle.sa_desk.specs.call.Kill.{kill_answer}
use Rattle.sa_desk.specs.program.Course.{Given, Course, says, shows, waits, kills, runs}
use Rattle.sa_desk.specs.program.Turn.{made}
use Rattle.sa_worker.specs.View.{View, Stage, done, me_of, call_at, outline_at}
use Rattle.sa_worker.specs.View as stages
use Rattle.sa_worker.specs.Holds.{StageHolds}
use Rattle.sa_worker.specs.Next.{next_at, after_kill}
use Rattle.sa_step.specs.Course.{IsKill, IsSpent, GoesOnBefore, SpendsBefore}
use Rattle.sa_step.specs.inner.Timely.{course_at, AtEnd}
use Rattle.sa_step.proofs.Coursing.{known_course}
use Rattle.sa_step.proofs.Making.{KillsAt, IsMadeAt}
use Rattle.sa_step.proofs.Stopping.{SeesOwn}
use Rattle.sa_step.proofs.Unkilled.{BeganIn}

-- What is so where only an End is left, in other words.
pub at_end : (Q R : Course → (b last : ℕ) → Type 0) (view : View) (stage : Stage) → (Q (course_at view) view.began (view.turn + 1) → R (course_at view) view.began (view.turn + 1)) → AtEnd Q view stage → AtEnd R view stage
at_end Q R view (stages.ends result) more is = more is
at_end Q R view stage more is = tt

-- Nothing.
abbrev pub Whatever : Course → (b last : ℕ) → Type 0
Whatever course b last = ⊤

pub at_end_whatever : (view : View) (stage : Stage) → AtEnd Whatever view stage
at_end_whatever view (stages.ends result) = tt
at_end_whatever view stage = tt

-- A kill is that of a KILL, which is gone before it could see one.
pub kill_made : (stage : Stage) (event : Event) → IsMadeAt stage event → IsKill event → KillsAt stage
kill_made stage (KillSent number kind) made kill = made
kill_made stage event made kill = absurd kill

pub spent_made : (kind : AskKind) (i count : ℕ) (event : Event) → IsMadeAt (stages.withdraws kind i count) event → IsSpent event → ⊥
spent_made kind i count (Spent number turns) made spent = made
spent_made kind i count event made spent = absurd spent

abbrev pub AreKills : Course → Type 0
AreKills (kills kind i) = ⊤
AreKills course = ⊥

module _ (slot : (session turn : ℕ) → ℕ) (given : Given) (journals : ℕ → List Entry) where
  pub kills_goes : (course : Course) (b last place : ℕ) → AreKills course → GoesOnBefore slot given course b last place
  kills_goes (kills kind i) b last place is = λ turn sees before. absurd sees
  kills_goes (says result) b last place is = absurd is
  kills_goes (shows kind i) b last place is = absurd is
  kills_goes (waits i at) b last place is = absurd is
  kills_goes (runs analyze chosen) b last place is = absurd is

  pub kills_spends : (course : Course) (b last place : ℕ) → AreKills course → SpendsBefore slot given journals course b last place
  kills_spends (kills kind i) b last place is = tt
  kills_spends (says result) b last place is = absurd is
  kills_spends (shows kind i) b last place is = absurd is
  kills_spends (waits i at) b last place is = absurd is
  kills_spends (runs analyze chosen) b last place is = absurd is

  pub runs_spends : (course : Course) (analyze : Bool) (chosen : Planned) (b last place : ℕ) → course ≡ runs analyze chosen → SpendsBefore slot given journals course b last place
  runs_spends course analyze chosen b last place is = subst (λ course. SpendsBefore slot given journals course b last place) (sym is) tt

module _ (view : View) (desk : Contents) (stamp : Stamp) where
  pub after_kills : (killed : Killed) → AreKills (course_at view) → AreKills (course_at (after_kill view killed))
  after_kills killed.Ok are = are
  after_kills killed.NoSuchThread are = are

  pub next_kills : (stage : Stage) → KillsAt stage → StageHolds view stage → AreKills (course_at (next_at view stage desk stamp))
  next_kills (stages.kills kind i) at holds =
      after_kills (kill_answer (phase desk)) (subst AreKills (sym (known_course view.given view.settings view.answer (kills kind i) tt holds.course_is)) tt)
  next_kills stage at holds = absurd at

-- A statement is on.
abbrev pub IsOnAt : Stage → Type 0
IsOnAt stages.prepares = ⊥
IsOnAt stages.opens = ⊥
IsOnAt stages.closes = ⊥
IsOnAt stages.done = ⊥
IsOnAt stage = ⊤

module _ (slot : (session turn : ℕ) → ℕ) (terms : Terms) (view : View) where
  pub began_at : (begin : ℕ) (stage : Stage) → IsOnAt stage → BeganIn slot terms view.began (outline_at view begin stage)
  began_at begin stages.prepares on = absurd on
  began_at begin stages.opens on = absurd on
  began_at begin stages.closes on = absurd on
  began_at begin stages.done on = absurd on
  began_at begin stage on = refl

pub own_called : (view : View) (stage : Stage) → SeesOwn stage → stages.desk_at view stage ≡ view.given.session
own_called view (stages.looks_asking kind i count) own = refl
own_called view (stages.looks_waiting i at count) own = refl
own_called view (stages.points chosen so_many run) own = refl
own_called view stage own = absurd own

pub own_on : (stage : Stage) → SeesOwn stage → IsOnAt stage
own_on (stages.looks_asking kind i count) own = tt
own_on (stages.looks_waiting i at count) own = tt
own_on (stages.points chosen so_many run) own = tt
own_on stage own = absurd own

-- the desk of a SHOW
abbrev pub shown_in : Course → ℕ
shown_in (shows kind i) = i
shown_in course = 0
