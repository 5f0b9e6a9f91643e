-- How the fields of a worker hang together.
use Rattle.std.specs.Prelude.{◌≡◌, ℕ, ◌-◌, ⊤, true, false, List, Some, drop}
use Rattle.sa_plan.specs.declared.plan.Planned.{Planned}
use Rattle.sa_desk.specs.declared.answer.Ended.{Ended}
use Rattle.sa_desk.specs.declared.outcome.Outcome.{Outcome}
use Rattle.sa_desk.specs.program.Course as course
use Rattle.sa_worker.specs.declared.opening.Course.{Course}
use Rattle.sa_worker.specs.declared.opening.Course.TheVariants.{Says, Runs}
use Rattle.sa_worker.specs.declared.opening.Goal.{Goal}
use Rattle.sa_worker.specs.declared.opening.Goal.TheVariants.{Rows, Analyzed}
use Rattle.sa_worker.specs.declared.opening.Made.{Made}
use Rattle.sa_worker.specs.declared.opening.Opening.{Opening}
use Rattle.sa_worker.specs.declared.session.Session.{Session}
use Rattle.sa_worker.specs.declared.settings.Change.{Change}
use Rattle.sa_worker.specs.declared.stage.Stage.{Stage}
use Rattle.sa_worker.specs.declared.stage.Stage.TheVariants.{Prepares, Opens, Closes, Ends, Steps, Points, Done}
use Rattle.sa_worker.specs.View.{View, plan_in, tables_in, text_at}
use Rattle.sa_worker.specs.Next.{begins, first_run, shown}
use Rattle.sa_worker.specs.Works.{IsRunOf}
use Rattle.sa_worker.specs.inner.Fields.{changed, planned_of, first_of, rest_of}

-- The change is what the End makes of the settings, where this outcome is due.
abbrev pub Changes : View → Change → Outcome → Type 0
Changes view change due =
    (ended : Ended)
    → course.settings_after view.settings view.answer (shown due ended)
    ≡ changed view.settings change ended

-- It is so whatever is due.
abbrev pub IsSteady : View → Change → Type 0
IsSteady view change = (due : Outcome) → Changes view change due

-- The run is made for what its statement is.
abbrev pub IsGoal : View → Planned → Goal → Type 0
IsGoal view planned (Rows names) = (names ≡ course.names_of planned.plan) × IsRunOf view false planned
IsGoal view planned (Analyzed plan) = (plan ≡ planned.plan) × IsRunOf view true planned

-- What hangs together where the statement does this next.
abbrev pub FirstTied : View → Change → Course → Type 0
FirstTied view change (Says outcome) = Changes view change outcome
FirstTied view change (Runs run goal) = IsSteady view change × IsGoal view (planned_of run) goal
FirstTied view change course = IsSteady view change

-- What the Begin shows beside the text, and what follows it.
pub record IsMade (view : View) (made : Made) : Type 0 where
  pub plan : made.plan ≡ plan_in (course.course_of view.given view.settings view.answer)
  pub tables : made.tables
      ≡ tables_in view.given (course.course_of view.given view.settings view.answer)
  pub first : first_of made.course ≡ begins view (course.course_of view.given view.settings view.answer)
  pub tied : FirstTied view made.change made.course

-- The course is a run of this plan, made for this.
pub record IsStarted (view : View) (text : List ℕ) (planned : Planned) (goal : Goal)
    (made : Made) : Type 0 where
  pub plan : made.plan ≡ Some planned.plan
  pub tables : made.tables ≡ Some view.given.tables
  pub course_is : made.course ≡ Runs (first_run view planned) goal
  pub change : (ended : Ended)
      → changed view.settings made.change ended ≡ course.trace view.settings text planned

pub record IsOpening (view : View) (opening : Opening) : Type 0 where
  pub text : opening.text ≡ course.text_of (text_at view) view.answer
  pub made : IsMade view opening.made

abbrev pub StageTied : View → Change → Stage → Type 0
StageTied view change Prepares = ⊤
StageTied view change Closes = ⊤
StageTied view change Done = ⊤
StageTied view change (Opens opening) = IsOpening view opening
StageTied view change (Ends outcome) = Changes view change outcome
StageTied view change (Steps run goal made) = IsSteady view change × IsGoal view (planned_of run) goal
StageTied view change (Points run goal made) = IsSteady view change × IsGoal view (planned_of run) goal
StageTied view change stage = IsSteady view change

-- The texts that are left, of which the first has this number counted from 0.
abbrev pub first_left : (number : ℕ) → Stage → ℕ
first_left number Prepares = number - 1
first_left number stage = number

-- A statement is on, whose End changes the settings so whatever is due.
pub record IsOn (session : Session) : Type 0 where
  pub texts : session.statements.items ≡ drop session.number session.texts.value
  pub steady : IsSteady (rest_of session) session.change

pub record IsTied (session : Session) : Type 0 where
  pub texts : session.statements.items
      ≡ drop (first_left session.number session.stage) session.texts.value
  pub stage : StageTied (rest_of session) session.change session.stage
