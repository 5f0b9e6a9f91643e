-- What is true of a worker's view in itself: its numbers, its turns, and how far its run has come.
use Rattle.std.specs.Prelude.{◌≡◌, ℕ, ◌+◌, ◌-◌, ◌*◌, ◌<◌, ◌≤◌, ◌^◌, ◌⊎◌, ⊤, Bool, false, length}
use Rattle.sa_plan.specs.declared.plan.Planned.{Planned}
use Rattle.sa_plan.specs.declared.prepared.Work.TheVariants as work
use Rattle.sa_plan.specs.Lawful.{IsLawful}
use Rattle.sa_meaning.specs.Items.{items}
use Rattle.sa_meaning.specs.Progress.{Progress, IsRunnable}
use Rattle.sa_desk.specs.declared.outcome.Finish.{Finish}
use Rattle.sa_desk.specs.declared.outcome.Finish.TheVariants.{Broken}
use Rattle.sa_desk.specs.declared.outcome.StepStop.TheVariants.{Killed}
use Rattle.sa_desk.specs.program.Course.{Given, Answer, prepared, Course, shows, waits, kills, course_of}
use Rattle.sa_desk.specs.program.RunEnds.{IsClear, RunsOn}
use Rattle.sa_worker.specs.View.{Stage, prepares, makes_steps, opens, closes, ends, asks, polls, looks_asking, withdraws, looks_waiting, points, ends_run, done, View}
use Rattle.sa_worker.specs.View as stage
use Rattle.sa_worker.specs.Next.{first_run}
use Rattle.sa_worker.specs.Works.{Stops, IsRunOf}

-- What is fixed is within its bounds.
pub record IsGiven (given : Given) : Type 0 where
  pub least_session : 1 ≤ given.session
  pub most_session : given.session ≤ given.sessions
  pub most_sessions : given.sessions ≤ 16
  pub least_quantum : 1 ≤ given.quantum
  pub most_quantum : given.quantum ≤ 64
  pub least_turns : 1 ≤ given.turns
  pub most_turns : given.turns ≤ 1_000_000_000
  pub texts : length given.texts ≤ 256

-- The plan can be run over the tables.
pub record CanRun (given : Given) (planned : Planned) : Type 0 where
  pub lawful : IsLawful given.tables planned.plan
  pub runnable : IsRunnable planned.plan

-- a step limit within its bounds
abbrev pub IsLimit : ℕ → Type 0
IsLimit limit = (1 ≤ limit) × (limit ≤ 2 ^ 40)

-- What a worker asks of an answer of preparation: its plan can be run, and a step limit is within
-- its bounds.
abbrev pub IsSoundAnswer : Given → Answer → Type 0
IsSoundAnswer given (prepared text (work.Select planned)) = CanRun given planned
IsSoundAnswer given (prepared text (work.Analyze planned)) = CanRun given planned
IsSoundAnswer given (prepared text (work.SetLimit limit)) = IsLimit limit
IsSoundAnswer given answer = ⊤

-- no statement lasts so many turns
abbrev pub longest : ℕ
longest = 2 ^ 42

-- A statement is on. No earlier one has lasted too long.
pub record IsOn (view : View) (last : ℕ) : Type 0 where
  pub there : view.number ≤ length view.given.texts
  pub began : view.began ≤ (view.number - 1) * longest + 1
  pub turn : view.turn ≡ view.began + last

-- A statement without a run is on, which does this. So many turns are made since its Begin.
pub record IsPlainly (view : View) (course : Course) (last : ℕ) : Type 0 where
  pub on : IsOn view last
  pub course_is : course_of view.given view.settings view.answer ≡ course

-- so many polls or looks of a budget were made
abbrev pub IsWithin : (least count turns : ℕ) → Type 0
IsWithin least count turns = (least ≤ count) × (count < turns)

-- A run is on, and so many points of it are made.
pub record IsRunning (view : View) (planned : Planned) (made : ℕ) : Type 0 where
  pub on : IsOn view made
  pub analyze : Bool
  pub course_is : IsRunOf view analyze planned
  pub can_run : CanRun view.given planned
  pub runs_on : RunsOn view.given view.settings.limit view.number view.began planned made

-- The run of the statement has come to so many steps, all of which were looked into.
abbrev pub run_at : View → Planned → (steps : ℕ) → Progress
run_at view planned steps = record (first_run view planned) { steps = steps }

-- why a run ends: it stopped, or a kill was seen at its last point
abbrev pub EndsSo : View → Planned → (made : ℕ) → Progress → Finish Progress → Type 0
EndsSo view planned made run finish =
    ((analyze : Bool) × IsRunOf view analyze planned
    × Stops view.given view.settings.limit analyze planned
    (made * view.given.quantum) run finish)
    ⊎ (finish ≡ Broken Killed run) × (1 ≤ made) × (run.steps ≡ made * view.given.quantum)

-- What is true at each stage.
abbrev pub StageHolds : View → Stage → Type 0
StageHolds view prepares =
    (view.number ≤ length view.given.texts + 1) × (view.turn ≤ (view.number - 1) * longest)
StageHolds view opens =
    (view.number ≤ length view.given.texts) × (view.turn ≤ (view.number - 1) * longest)
StageHolds view closes =
    (view.number ≤ length view.given.texts + 1) × (view.turn ≤ view.number * longest)
StageHolds view done = ⊤
StageHolds view (ends result) = (last : ℕ) × (last ≤ 2 * view.given.turns) × IsOn view last
StageHolds view (asks kind desk) = IsPlainly view (shows kind desk) 0
StageHolds view (polls kind desk count) =
    IsWithin 0 count view.given.turns × IsPlainly view (shows kind desk) (1 + 2 * count)
StageHolds view (looks_asking kind desk count) =
    IsWithin 1 count view.given.turns × IsPlainly view (shows kind desk) (2 * count)
StageHolds view (withdraws kind desk count) =
    IsWithin 1 count view.given.turns × IsPlainly view (shows kind desk) (1 + 2 * count)
StageHolds view (stage.kills kind desk) = IsPlainly view (kills kind desk) 0
StageHolds view (stage.waits desk at count) =
    IsWithin 0 count view.given.turns × IsPlainly view (waits desk at) (2 * count)
StageHolds view (looks_waiting desk at count) =
    IsWithin 1 count view.given.turns × IsPlainly view (waits desk at) (2 * count - 1)
StageHolds view (makes_steps planned made run) =
    IsRunning view planned made × (run ≡ run_at view planned (made * view.given.quantum))
StageHolds view (points planned made run) =
    IsRunning view planned made
    × (record run { since_looked = 0 }
    ≡ run_at view planned ((made + 1) * view.given.quantum)) ×
    (run.steps < length (items planned.plan view.given.tables))
    × IsClear view.settings.limit planned.plan view.given.tables run.steps
StageHolds view (ends_run planned made run given) =
    IsRunning view planned made × EndsSo view planned made run given ×
    (record run { steps = 0; since_looked = 0; failed = false } ≡ first_run view planned) ×
    (made * view.given.quantum ≤ run.steps)
    × (run.steps ≤ made * view.given.quantum + view.given.quantum) ×
    IsClear view.settings.limit planned.plan view.given.tables run.steps

pub record HoldsAt (view : View) (stage : Stage) : Type 0 where
  pub given : IsGiven view.given
  pub first : 1 ≤ view.number
  pub limit : IsLimit view.settings.limit
  pub answer : IsSoundAnswer view.given view.answer
  pub holds : StageHolds view stage

abbrev pub Holds : View → Type 0
Holds view = HoldsAt view view.stage
