-- What a worker knows of the desks between two turns.
use Rattle.std.specs.Prelude.{◌≡◌, ℕ, ◌+◌, ◌-◌, ◌*◌, ◌<◌, ◌≤◌, ⊤, true, List, length, slice_index, Some, None, IfSome}
use Rattle.sa_plan.specs.declared.plan.Plan.{Plan}
use Rattle.sa_plan.specs.Lawful.{IsLawful}
use Rattle.sa_meaning.specs.Progress.{Progress, IsFinished}
use Rattle.sa_desk.specs.declared.entry.Entry.{Entry}
use Rattle.sa_desk.specs.declared.outcome.Finish.{Finish}
use Rattle.sa_desk.specs.declared.outcome.Finish.TheVariants.{Plain, Rows, Analyzed, Broken}
use Rattle.sa_desk.specs.declared.outcome.Outcome.TheVariants as outcome
use Rattle.sa_desk.specs.declared.outcome.StepStop.TheVariants.{Killed}
use Rattle.sa_desk.specs.Runs.{state_of}
use Rattle.sa_desk.specs.Serving.{is_killed}
use Rattle.sa_desk.specs.World.{World, Begins, made_by, standing_on}
use Rattle.sa_desk.specs.Charge.{charge}
use Rattle.sa_desk.specs.Own.{free, own_from, request_from}
use Rattle.sa_desk.specs.call.End.{run_of}
use Rattle.sa_desk.specs.call.Look.{looks_of}
use Rattle.sa_desk.specs.program.Course.{Given, course_of}
use Rattle.sa_desk.specs.program.SoFar.{terms_of}
use Rattle.sa_desk.specs.program.Turn.{itself}
use Rattle.sa_worker.specs.View.{View, Stage, makes_steps, opens, ends, polls, looks_asking, withdraws, waits, looks_waiting, points, ends_run, plan_in, desk_at, outline_at, request_at, aimed, owed}
use Rattle.sa_worker.specs.Holds.{HoldsAt}

-- A kill of the session's statement was seen: it stands after entries which the session has seen,
-- and after which it has made none on its own desk.
pub record WasKilled (world : World) (view : View) : Type 0 where
  pub journal : List Entry
  pub seen : Begins journal (world.seen view.given.session view.given.session)
  pub own : made_by view.given.session journal
      ≡ standing_on view.given.session (world.mine view.given.session)
  pub killed : is_killed (state_of (world.terms view.given.session) journal).phase ≡ true

-- The run is of the statement, and so many points of it are made.
pub record IsRunAt (world : World) (view : View) (run : Progress) (plan : Plan)
    (made : ℕ) : Type 0 where
  pub statement : run.statement ≡ view.number
  pub plan_is : run.plan ≡ plan
  pub tables_are : run.data_read ≡ view.given.tables
  pub published : (world.quiet view.given.session view.given.session).published
      ≡ made * view.given.quantum
  pub turn : view.turn ≡ view.began + made

-- What a run's End is given fits: all items are made, or a kill was seen.
abbrev pub FitsSeen : World → View → Finish Progress → Type 0
FitsSeen world view (Plain result) = ⊥
FitsSeen world view (Rows names run) = IsFinished run
FitsSeen world view (Analyzed plan run) = IsFinished run
FitsSeen world view (Broken fault run) = fault ≡ Killed → WasKilled world view

-- What a stage knows besides.
abbrev pub StageKnows : World → View → Stage → Type 0
StageKnows world view (makes_steps planned made run) =
    IsRunAt world view run planned.plan made × (run.steps ≡ made * view.given.quantum)
StageKnows world view opens =
    IfSome (plan_in (course_of view.given view.settings view.answer)) (IsLawful view.given.tables)
StageKnows world view (ends result) = result ≡ outcome.Interrupted → WasKilled world view
StageKnows world view (polls kind desk count) = (world.quiet view.given.session desk).polls ≡ count
StageKnows world view (looks_asking kind desk count) =
    (world.quiet view.given.session desk).polls ≡ count
StageKnows world view (withdraws kind desk count) = WasKilled world view
StageKnows world view (waits desk at count) =
    looks_of (world.quiet view.given.session desk).wait view.number at ≡ count
StageKnows world view (looks_waiting desk at count) =
    looks_of (world.quiet view.given.session desk).wait view.number at ≡ count
StageKnows world view (points planned made run) =
    IsRunAt world view run planned.plan made × (IsFinished run → ⊥) ×
    (run.steps ≡ made * view.given.quantum + view.given.quantum)
StageKnows world view (ends_run planned made run given) =
    IsRunAt world view run planned.plan made × (run_of itself given ≡ Some run)
    × FitsSeen world view given ×
    (made * view.given.quantum ≤ run.steps)
    × (run.steps ≤ made * view.given.quantum + view.given.quantum)
StageKnows world view stage = ⊤

-- Waits that are open, on any desk, are of statements before this one.
abbrev pub past : View → Stage → ℕ
past view (ends result) = view.number + 1
past view (waits desk at count) = view.number + 1
past view (looks_waiting desk at count) = view.number + 1
past view stage = view.number

-- A number of one of the script's sessions.
pub record IsSession (given : Given) (number : ℕ) : Type 0 where
  pub least : 1 ≤ number
  pub most : number ≤ given.sessions

-- What it knows at a stage.
pub record KeepsAt (world : World) (view : View) (stage : Stage) : Type 0 where
  pub session : IsSession view.given view.given.session
  pub aimed : IsSession view.given (desk_at view stage)
  pub terms : (desk : ℕ) → IsSession view.given desk → world.terms desk ≡ terms_of view.given desk
  pub shares : (desk : ℕ) → IsSession view.given desk → length (world.shares desk) ≡ view.given.sessions
  -- what its own entries say, the number of the last Begin being this
  pub begin : ℕ
  pub outline_is : own_from free (standing_on view.given.session (world.mine view.given.session))
      ≡ outline_at view begin stage
  pub requests : (desk : ℕ) → IsSession view.given desk →
      request_from None (standing_on desk (world.mine view.given.session)) ≡ request_at view stage desk
  -- its shares are enough
  pub room : (desk : ℕ) → IsSession view.given desk →
      charge view.given.session
      (standing_on desk (world.mine view.given.session)) + owed view stage desk
      ≤ slice_index (world.shares desk) (view.given.session - 1)
  pub waiting : (desk : ℕ) → IsSession view.given desk →
      IfSome (world.quiet view.given.session desk).wait (λ wait. wait.statement < past view stage)
  pub holds : HoldsAt view stage
  pub knows : StageKnows world view stage

abbrev pub Keeps : World → View → Type 0
Keeps world view = KeepsAt world view view.stage

-- The desks suit a worker: they have its terms, and its session a share of each that is enough, by
-- how many statements it has.
pub record Suits (world : World) (given : Given) : Type 0 where
  pub terms : (desk : ℕ) → IsSession given desk → world.terms desk ≡ terms_of given desk
  pub shares : (desk : ℕ) → IsSession given desk → length (world.shares desk) ≡ given.sessions
  -- 3 for each statement, and on its own desk 2 more for each and 1 for the Close
  pub room : (desk : ℕ) → IsSession given desk →
      3 * length given.texts + aimed given.session desk (2 * length given.texts + 1)
      ≤ slice_index (world.shares desk) (given.session - 1)
