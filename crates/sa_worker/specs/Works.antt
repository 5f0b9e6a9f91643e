-- What the private work before a turn's call does.
use Rattle.std.specs.Prelude.{◌≡◌, ℕ, ◌+◌, ◌<◌, ◌≤◌, Bool, true, false, length}
use Rattle.sa_plan.specs.declared.plan.Planned.{Planned}
use Rattle.sa_meaning.specs.Items.{items}
use Rattle.sa_meaning.specs.Output.{kept}
use Rattle.sa_meaning.specs.Progress.{Progress, IsFinished, EmitsAt}
use Rattle.sa_desk.specs.declared.outcome.Finish.{Finish}
use Rattle.sa_desk.specs.declared.outcome.Finish.TheVariants.{Rows, Analyzed, Broken}
use Rattle.sa_desk.specs.declared.outcome.StepStop.{StepStop}
use Rattle.sa_desk.specs.declared.outcome.StepStop.TheVariants.{RowLimit, TooManyRows, OutOfMemory, Killed}
use Rattle.sa_desk.specs.program.Course.{Given, Answer, names_of, runs, course_of}
use Rattle.sa_desk.specs.program.Prepares.{Answers, IsAnswer}
use Rattle.sa_desk.specs.program.RunEnds.{most_rows, IsClear}
use Rattle.sa_worker.specs.View.{Stage, prepares, makes_steps, opens, closes, points, ends_run, View, text_at}

-- The next statement is prepared. Where none is left the session closes.
pub data Prepares (gives : Answers) (view later : View) : Type 0 where
  is_prepared : (answer : Answer) (there : view.number ≤ length view.given.texts)
      (given : IsAnswer gives (text_at view) answer)
      (is : later ≡ record view { answer = answer; stage = opens }) → Prepares gives view later
  is_last : (none : length view.given.texts < view.number)
      (is : later ≡ record view { stage = closes }) → Prepares gives view later

-- A run has come from one number of steps to another, at most a quantum of them, and nothing was
-- refused on the way.
pub record Comes (view : View) (planned : Planned) (run later : Progress) : Type 0 where
  pub same : later
      ≡ record run { steps = later.steps; since_looked = later.since_looked; failed = later.failed }
  pub least : run.steps ≤ later.steps
  pub most : later.steps ≤ run.steps + view.given.quantum
  pub clear : IsClear view.settings.limit planned.plan view.given.tables later.steps

-- How the work stops, with this limit of steps.
module _ (given : Given) (limit : ℕ) where
  -- why the step after so many can't be made
  abbrev pub Breaks : Planned → StepStop → (steps : ℕ) → Type 0
  Breaks planned RowLimit steps = steps ≡ limit
  Breaks planned TooManyRows steps =
      (steps < limit) × (most_rows < length (kept planned.plan given.tables (steps + 1)))
  Breaks planned OutOfMemory steps =
      IsClear limit planned.plan given.tables (steps + 1) × EmitsAt planned.plan given.tables steps
  Breaks planned Killed steps = ⊥

  -- What a run is given to its End, which has made so many steps before this work: all items are
  -- made, or one can't be.
  abbrev pub Stops : Bool → Planned → (before : ℕ) → Progress → Finish Progress → Type 0
  Stops false planned before run (Rows names same) =
      (same ≡ run) × (names ≡ names_of planned.plan) × IsFinished run
  Stops true planned before run (Analyzed plan same) =
      (same ≡ run) × (plan ≡ planned.plan) × IsFinished run
  Stops analyze planned before run (Broken fault same) =
      (same ≡ run) × (run.steps < length (items planned.plan given.tables))
      × (run.steps < before + given.quantum) ×
      Breaks planned fault run.steps
  Stops analyze planned before run finish = ⊥

-- the course is a run of this plan
abbrev pub IsRunOf : View → Bool → Planned → Type 0
IsRunOf view analyze planned = course_of view.given view.settings view.answer ≡ runs analyze planned

-- Steps of the run are made: a quantum of them, and items are left, or until it stops.
pub data Makes (view : View) (planned : Planned) (made : ℕ) (run : Progress)
    (later : View) : Type 0 where
  goes_on : (after : Progress) (comes : Comes view planned run after)
      (full : after.steps ≡ run.steps + view.given.quantum)
      (more : after.steps < length (items planned.plan view.given.tables))
      (unfailed : after.failed ≡ run.failed)
      (is : later ≡ record view { stage = points planned made after })
      → Makes view planned made run later
  stops : (after : Progress) (comes : Comes view planned run after) (finish : Finish Progress)
      (analyze : Bool)
      (of_course : IsRunOf view analyze planned)
      (so : Stops view.given view.settings.limit analyze planned run.steps after finish)
      (is : later ≡ record view { stage = ends_run planned made after finish })
      → Makes view planned made run later

-- The private work leads from one view to another. At a stage at which a call comes next, or none
-- does any more, there is none.
abbrev pub WorksAt : Answers → View → Stage → View → Type 0
WorksAt gives view prepares later = Prepares gives view later
WorksAt gives view (makes_steps planned made run) later = Makes view planned made run later
WorksAt gives view stage later = later ≡ view

abbrev pub Works : Answers → View → View → Type 0
Works gives view later = WorksAt gives view view.stage later
