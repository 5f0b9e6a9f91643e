-- What a worker holds between two turns, and which call comes next.
use Rattle.std.specs.Prelude.{ℕ, ◌+◌, ◌-◌, ◌*◌, ◌==◌, ⊤, List, [], length, slice_index_or, Option, Some, None, if◌then◌else◌}
use Rattle.sa_ast.specs.declared.kind.AskKind.{AskKind}
use Rattle.sa_ast.specs.declared.kind.KillKind.{KillKind}
use Rattle.sa_plan.specs.declared.plan.Plan.{Plan}
use Rattle.sa_plan.specs.declared.plan.Planned.{Planned}
use Rattle.sa_meaning.specs.Data.{RunData}
use Rattle.sa_meaning.specs.Progress.{Progress}
use Rattle.sa_desk.specs.declared.entry.Event.TheVariants.{Begin}
use Rattle.sa_desk.specs.declared.outcome.Finish.{Finish}
use Rattle.sa_desk.specs.declared.outcome.Finish.TheVariants as finish
use Rattle.sa_desk.specs.declared.outcome.Outcome.{Outcome}
use Rattle.sa_desk.specs.declared.stamp.Caller.{Caller}
use Rattle.sa_desk.specs.Own.{Outline, free, plainly, running, over}
use Rattle.sa_desk.specs.program.Course.{Given, Answer, starved, text_of, Settings, at_first, Course, runs, course_of}
use Rattle.sa_desk.specs.program.Turn.{Call}
use Rattle.sa_desk.specs.program.Turn as call

-- What comes next.
pub data Stage : Type 0 where
  -- private work comes before the next call: a statement is prepared, or steps are made of a run
  -- that has made so many points
  prepares : Stage
  makes_steps : (planned : Planned) (made : ℕ) (run : Progress) → Stage
  -- nothing is on: the next call begins the statement, or closes
  opens : Stage
  closes : Stage
  -- it ends a statement without a run, with this outcome where no kill stands
  ends : (result : Outcome) → Stage
  -- it asks a desk; polls there once more; looks for a kill between two polls; takes the request back
  asks : (kind : AskKind) (desk : ℕ) → Stage
  polls : (kind : AskKind) (desk polled : ℕ) → Stage
  looks_asking : (kind : AskKind) (desk polled : ℕ) → Stage
  withdraws : (kind : AskKind) (desk polled : ℕ) → Stage
  -- it kills what a desk runs
  kills : (kind : KillKind) (desk : ℕ) → Stage
  -- it looks at a desk once more; looks for a kill between two looks
  waits : (desk at looked : ℕ) → Stage
  looks_waiting : (desk at looked : ℕ) → Stage
  -- it makes a point of the run, of which so many are made, or ends the run
  points : (planned : Planned) (made : ℕ) (run : Progress) → Stage
  ends_run : (planned : Planned) (made : ℕ) (run : Progress) (given : Finish Progress) → Stage
  -- the session is done
  done : Stage

pub record View : Type 0 where
  pub given : Given
  pub settings : Settings
  -- the turns made
  pub turn : ℕ
  -- the number of the statement that is on or begins next
  pub number : ℕ
  -- of the last one that was prepared: what preparation answered; of the last one that began: the
  -- turn of its Begin
  pub answer : Answer
  pub began : ℕ
  pub stage : Stage

-- what it holds at first
abbrev pub first_view : Given → View
first_view given = record {
  given = given;
  settings = at_first;
  turn = 0;
  number = 1;
  answer = starved [];
  began = 0;
  stage = prepares;
}

-- the text of the statement that is on or begins next
abbrev pub text_at : View → List ℕ
text_at view = slice_index_or view.given.texts (view.number - 1) []

-- how many statements begin after it
abbrev pub left : View → ℕ
left view = length view.given.texts - view.number

-- the session and its next turn
abbrev pub me_of : View → Caller
me_of view = record { actor = view.given.session; turn = view.turn + 1 }

-- A call comes next.
abbrev pub IsActive : Stage → Type 0
IsActive prepares = ⊥
IsActive (makes_steps planned made run) = ⊥
IsActive done = ⊥
IsActive stage = ⊤

-- the plan and the tables of a course, if it runs one
abbrev pub plan_in : Course → Option Plan
plan_in (runs analyze planned) = Some planned.plan
plan_in course = None

abbrev pub tables_in : Given → Course → Option RunData
tables_in given (runs analyze planned) = Some given.tables
tables_in given course = None

-- the call of a stage at which one comes next
abbrev pub call_at : View → Stage → Call
call_at view opens =
    let course = course_of view.given view.settings view.answer in
    let plan = plan_in course in
    let tables = tables_in view.given course in
    call.begins (Begin view.number (text_of (text_at view) view.answer) 0 plan tables) 0 plan tables
call_at view closes = call.closes
call_at view (ends result) = call.ends (finish.Plain result)
call_at view (asks kind desk) = call.asks kind view.given.turns
call_at view (polls kind desk polled) = call.polls
call_at view (looks_asking kind desk polled) = call.looks_own
call_at view (withdraws kind desk polled) = call.withdraws
call_at view (kills kind desk) = call.kills kind
call_at view (waits desk at looked) = call.looks at view.given.turns
call_at view (looks_waiting desk at looked) = call.looks_own
call_at view (points planned made run) = call.points run
call_at view (ends_run planned made run given) = call.ends given
call_at view stage = call.looks_own

-- the desk that it calls
abbrev pub desk_at : View → Stage → ℕ
desk_at view (asks kind desk) = desk
desk_at view (polls kind desk polled) = desk
desk_at view (withdraws kind desk polled) = desk
desk_at view (kills kind desk) = desk
desk_at view (waits desk at looked) = desk
desk_at view stage = view.given.session

-- what the session's own entries say of its own desk, the number of the Begin being this
abbrev pub outline_at : View → (begin : ℕ) → Stage → Outline
outline_at view begin prepares = free
outline_at view begin opens = free
outline_at view begin closes = free
outline_at view begin (makes_steps planned made run) =
    running view.number begin view.began planned.plan view.given.tables
outline_at view begin (points planned made run) =
    running view.number begin view.began planned.plan view.given.tables
outline_at view begin (ends_run planned made run given) =
    running view.number begin view.began planned.plan view.given.tables
outline_at view begin done = over
outline_at view begin stage = plainly view.number begin view.began

-- the request that they tell on a desk
abbrev pub open_at : (number asked desk : ℕ) → Option ℕ
open_at number asked desk = if desk == asked then Some number else None

abbrev pub request_at : View → Stage → (desk : ℕ) → Option ℕ
request_at view (polls kind asked polled) desk = open_at view.number asked desk
request_at view (looks_asking kind asked polled) desk = open_at view.number asked desk
request_at view (withdraws kind asked polled) desk = open_at view.number asked desk
request_at view stage desk = None

-- what the statement that is on still pays on a desk
abbrev pub aimed : (asked desk price : ℕ) → ℕ
aimed asked desk price = if desk == asked then price else 0

abbrev pub owed_aiming : Stage → (desk : ℕ) → ℕ
owed_aiming (asks kind asked) desk = aimed asked desk 3
owed_aiming (polls kind asked polled) desk = aimed asked desk 1
owed_aiming (looks_asking kind asked polled) desk = aimed asked desk 1
owed_aiming (withdraws kind asked polled) desk = aimed asked desk 1
owed_aiming (kills kind asked) desk = aimed asked desk 1
owed_aiming (waits asked at looked) desk = aimed asked desk 1
owed_aiming (looks_waiting asked at looked) desk = aimed asked desk 1
owed_aiming stage desk = 0

-- and on its own desk: a Begin, an End, the Close
abbrev pub owed_own : View → Stage → ℕ
owed_own view done = 0
owed_own view closes = 1
owed_own view prepares = 2 * (length view.given.texts + 1 - view.number) + 1
owed_own view opens = 2 * left view + 3
owed_own view stage = 2 * left view + 2

abbrev pub owed_later : View → Stage → ℕ
owed_later view prepares = 3 * (length view.given.texts + 1 - view.number)
owed_later view opens = 3 * left view + 3
owed_later view stage = 3 * left view

-- what the session still pays on a desk at most
abbrev pub owed : View → Stage → (desk : ℕ) → ℕ
owed view stage desk =
    owed_aiming stage desk + owed_later view stage + aimed view.given.session desk
    (owed_own view stage)
