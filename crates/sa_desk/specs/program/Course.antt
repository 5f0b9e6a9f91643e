-- What preparing a statement answers, and what the statement then does.
use Rattle.std.specs.Prelude.{ℕ, ◌+◌, ◌^◌, Bool, true, false, ◌&&◌, nat_lt, List, map, Option, Some, None, if◌then◌else◌}
use Rattle.sa_ast.specs.declared.kind.AskKind.{AskKind}
use Rattle.sa_ast.specs.declared.kind.KillKind.{KillKind}
use Rattle.sa_query.specs.declared.item.Item.{Item}
use Rattle.sa_query.specs.declared.refusal.Refusal.{Refusal}
use Rattle.sa_plan.specs.declared.plan.Plan.{Plan}
use Rattle.sa_plan.specs.declared.plan.Planned.{Planned}
use Rattle.sa_plan.specs.declared.prepared.Work.{Work}
use Rattle.sa_plan.specs.declared.prepared.Work.TheVariants as work
use Rattle.sa_meaning.specs.Data.{RunData}
use Rattle.sa_desk.specs.declared.outcome.Outcome.{Outcome}
use Rattle.sa_desk.specs.declared.outcome.Outcome.TheVariants as outcome

-- What is fixed for a session: its number, how many sessions there are, how many steps a turn makes
-- and how many turns a request or a wait lasts, the tables, and the texts of its statements.
pub record Given : Type 0 where
  pub session : ℕ
  pub sessions : ℕ
  pub quantum : ℕ
  pub turns : ℕ
  pub tables : RunData
  pub texts : List (List ℕ)

-- A canonical text and a work, or a refusal. Or memory ran out before the Begin, which then has
-- this text.
pub data Answer : Type 0 where
  prepared : (text : List ℕ) (given : Work) → Answer
  refused : (why : Refusal) → Answer
  starved : (text : List ℕ) → Answer

-- What a Begin tells: the canonical text where preparation answered, else the source text.
abbrev pub text_of : List ℕ → Answer → List ℕ
text_of source (prepared text given) = text
text_of source (refused why) = source
text_of source (starved text) = text

-- What a session's SETs have left, and the statement that is traced, by its text and its plan.
pub record Settings : Type 0 where
  pub limit : ℕ
  pub tracing : Bool
  pub traced : Option (List ℕ × Planned)

-- the first settings
abbrev pub at_first : Settings
at_first = record { limit = 2 ^ 40; tracing = false; traced = None }

-- What was prepared with a plan while tracing was on is traced.
abbrev pub trace : Settings → List ℕ → Planned → Settings
trace settings text planned =
    if settings.tracing then record settings { traced = Some (text, planned) } else settings

-- The settings after a statement that ended so. A SET holds exactly where its End says so.
abbrev pub settings_after : Settings → Answer → Outcome → Settings
settings_after settings (prepared text (work.SetTrace on)) outcome.Set =
    record settings { tracing = on }
settings_after settings (prepared text (work.SetLimit limit)) outcome.Set =
    record settings { limit = limit }
settings_after settings (prepared text (work.Select planned)) result = trace settings text planned
settings_after settings (prepared text (work.Analyze planned)) result = trace settings text planned
settings_after settings (prepared text (work.Explain planned)) result = trace settings text planned
settings_after settings answer result = settings

-- the names of a plan's columns
abbrev pub names_of : Plan → List (List ℕ)
names_of plan = map (λ (item : Item). item.name) plan.select

-- the document of the statement that is traced: none, as no trace is written yet
abbrev pub document_of : Option (List ℕ × Planned) → Option (List ℕ)
document_of traced = None

-- What a statement does after its Begin: it ends at once with an outcome, shows or analyzes a
-- desk's statement, waits for a desk, kills, or runs a plan.
pub data Course : Type 0 where
  says : (outcome : Outcome) → Course
  shows : (kind : AskKind) (desk : ℕ) → Course
  waits : (desk at : ℕ) → Course
  kills : (kind : KillKind) (desk : ℕ) → Course
  runs : (analyze : Bool) (planned : Planned) → Course

-- The number of a session that the script has gives the course, and any other number NoSuchThread.
abbrev pub toward : Given → ℕ → Course → Course
toward given id course =
    if nat_lt 0 id && nat_lt id (given.sessions + 1) then course else says outcome.NoSuchThread

abbrev pub course_of : Given → Settings → Answer → Course
course_of given settings (refused why) = says (outcome.Refused why)
course_of given settings (starved text) = says outcome.OutOfMemory
course_of given settings (prepared text (work.Explain planned)) = says (outcome.PlanShown planned.plan)
course_of given settings (prepared text (work.SetTrace on)) = says outcome.Set
course_of given settings (prepared text (work.SetLimit limit)) = says outcome.Set
course_of given settings (prepared text work.TraceRows) =
    says (outcome.Trace (document_of settings.traced))
course_of given settings (prepared text (work.Show kind id)) = toward given id (shows kind id)
course_of given settings (prepared text (work.Wait id at)) = toward given id (waits id at)
course_of given settings (prepared text (work.Kill kind id)) = toward given id (kills kind id)
course_of given settings (prepared text (work.Select planned)) = runs false planned
course_of given settings (prepared text (work.Analyze planned)) = runs true planned
