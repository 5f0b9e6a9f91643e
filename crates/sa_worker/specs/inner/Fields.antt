-- What the fields of a worker stand for.
use Rattle.std.specs.Prelude.{ℕ, List, Some, option_map}
use Rattle.sa_plan.specs.declared.plan.Planned.{Planned}
use Rattle.sa_meaning.specs.Progress.{Progress}
use Rattle.sa_desk.specs.declared.answer.Ended.{Ended}
use Rattle.sa_desk.specs.declared.answer.Ended.TheVariants.{Kept}
use Rattle.sa_desk.specs.declared.outcome.Finish.{Finish}
use Rattle.sa_desk.specs.declared.outcome.Finish.TheVariants as finish
use Rattle.sa_desk.specs.program.Course as course
use Rattle.sa_worker.specs.declared.given.Given.{Given as GivenFields}
use Rattle.sa_worker.specs.declared.opening.Course.{Course}
use Rattle.sa_worker.specs.declared.opening.Course.TheVariants.{Says, Shows, Waits, Kills, Runs}
use Rattle.sa_worker.specs.declared.opening.Goal.{Goal}
use Rattle.sa_worker.specs.declared.opening.Goal.TheVariants as goals
use Rattle.sa_worker.specs.declared.session.About.{About}
use Rattle.sa_worker.specs.declared.session.About.TheVariants.{Prepared, Refused, Starved}
use Rattle.sa_worker.specs.declared.session.Session.{Session}
use Rattle.sa_worker.specs.declared.settings.Change.{Change}
use Rattle.sa_worker.specs.declared.settings.Change.TheVariants.{Limit, Tracing, Traces}
use Rattle.sa_worker.specs.declared.settings.Settings.{Settings as SettingsFields}
use Rattle.sa_worker.specs.declared.settings.Traced.{Traced}
use Rattle.sa_worker.specs.declared.stage.RunEnd.{RunEnd}
use Rattle.sa_worker.specs.declared.stage.RunEnd.TheVariants as run_end
use Rattle.sa_worker.specs.declared.stage.Stage.{Stage as StageFields}
use Rattle.sa_worker.specs.declared.stage.Stage.TheVariants as fields
use Rattle.sa_worker.specs.declared.steps.Pause.{Pause}
use Rattle.sa_worker.specs.declared.steps.Pause.TheVariants.{Full, Finished, Failed}
use Rattle.sa_worker.specs.View.{View, Stage}
use Rattle.sa_worker.specs.View as stage

abbrev pub traced_of : Traced → List ℕ × Planned
traced_of traced = (traced.text, traced.planned)

abbrev pub settings_of : SettingsFields → course.Settings
settings_of settings =
    record {
      limit = settings.limit;
      tracing = settings.tracing;
      traced = option_map traced_of settings.traced;
    }

-- the settings after a change, where the statement ended so
abbrev pub changed : course.Settings → Change → Ended → course.Settings
changed settings (Limit limit) Kept = record settings { limit = limit }
changed settings (Tracing on) Kept = record settings { tracing = on }
changed settings (Traces traced) ended = record settings { traced = Some (traced_of traced) }
changed settings change ended = settings

abbrev pub answer_of : About → course.Answer
answer_of (Prepared about) = course.prepared about.value.text about.value.work
answer_of (Refused about) = course.refused about.value
answer_of (Starved about) = course.starved about.value

-- the plan that a run is of
abbrev pub planned_of : Progress → Planned
planned_of run = record { plan = run.plan }

abbrev pub finish_of : Progress → RunEnd → Finish Progress
finish_of run (run_end.Rows names) = finish.Rows names run
finish_of run (run_end.Analyzed plan) = finish.Analyzed plan run
finish_of run (run_end.Broken fault) = finish.Broken fault run

abbrev pub stage_of : StageFields → Stage
stage_of fields.Prepares = stage.prepares
stage_of (fields.Opens opening) = stage.opens
stage_of fields.Closes = stage.closes
stage_of (fields.Ends outcome) = stage.ends outcome
stage_of (fields.Asks kind desk) = stage.asks kind desk
stage_of (fields.Polls kind desk polled) = stage.polls kind desk polled
stage_of (fields.LooksAsking kind desk polled) = stage.looks_asking kind desk polled
stage_of (fields.Withdraws kind desk polled) = stage.withdraws kind desk polled
stage_of (fields.Kills kind desk) = stage.kills kind desk
stage_of (fields.Waits desk at looked) = stage.waits desk at looked
stage_of (fields.LooksWaiting desk at looked) = stage.looks_waiting desk at looked
stage_of (fields.Steps run goal made) = stage.makes_steps (planned_of run) made run
stage_of (fields.Points run goal made) = stage.points (planned_of run) made run
stage_of (fields.EndsRun run end made) = stage.ends_run (planned_of run) made run (finish_of run end)
stage_of fields.Done = stage.done

-- what comes first after the Begin
abbrev pub first_of : Course → Stage
first_of (Says outcome) = stage.ends outcome
first_of (Shows kind desk) = stage.asks kind desk
first_of (Waits desk at) = stage.waits desk at 0
first_of (Kills kind desk) = stage.kills kind desk
first_of (Runs run goal) = stage.makes_steps (planned_of run) 0 run

abbrev pub given_of : GivenFields → List (List ℕ) → course.Given
given_of given texts = record {
  session = given.session;
  sessions = given.sessions;
  quantum = given.quantum;
  turns = given.turns;
  tables = given.tables;
  texts = texts;
}

abbrev pub view_of : Session → View
view_of session = record {
  given = given_of session.given session.texts.value;
  settings = settings_of session.settings;
  turn = session.turn;
  number = session.number;
  answer = answer_of session.about;
  began = session.began;
  stage = stage_of session.stage;
}

-- the stage after the Begin
abbrev pub first_fields : Course → StageFields
first_fields (Says outcome) = fields.Ends outcome
first_fields (Shows kind desk) = fields.Asks kind desk
first_fields (Waits desk at) = fields.Waits desk at 0
first_fields (Kills kind desk) = fields.Kills kind desk
first_fields (Runs run goal) = fields.Steps run goal 0

-- the end of a run all of whose items are made
abbrev pub whole_of : Goal → RunEnd
whole_of (goals.Rows names) = run_end.Rows names
whole_of (goals.Analyzed plan) = run_end.Analyzed plan

-- the view without what a turn changes of it
abbrev pub rest_of : Session → View
rest_of session = record (view_of session) { turn = 0; began = 0; stage = stage.prepares }

-- the same, where preparation has answered so
abbrev pub answered : Session → course.Answer → View
answered session answer = record (rest_of session) { answer = answer }

-- the stage after the steps of a turn
abbrev pub paused : Progress → Goal → ℕ → Pause → StageFields
paused run goal made Full = fields.Points run goal made
paused run goal made Finished = fields.EndsRun run (whole_of goal) made
paused run goal made (Failed fault) = fields.EndsRun run (run_end.Broken fault) made
