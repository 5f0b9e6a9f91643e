-- What a worker holds after a turn, by what the turn's call was answered.
use Rattle.std.specs.Prelude.{ℕ, ◌+◌, false}
use Rattle.sa_ast.specs.declared.kind.AskKind.{AskKind}
use Rattle.sa_plan.specs.declared.plan.Planned.{Planned}
use Rattle.sa_meaning.specs.Progress.{Progress}
use Rattle.sa_desk.specs.declared.answer.Asked.{Asked}
use Rattle.sa_desk.specs.declared.answer.Asked.TheVariants as asked
use Rattle.sa_desk.specs.declared.answer.Begun.{Begun}
use Rattle.sa_desk.specs.declared.answer.Begun.TheVariants as begun
use Rattle.sa_desk.specs.declared.answer.Ended.{Ended}
use Rattle.sa_desk.specs.declared.answer.Ended.TheVariants as ended
use Rattle.sa_desk.specs.declared.answer.Killed.{Killed}
use Rattle.sa_desk.specs.declared.answer.Killed.TheVariants as killed
use Rattle.sa_desk.specs.declared.answer.Looked.{Looked}
use Rattle.sa_desk.specs.declared.answer.Looked.TheVariants as looked
use Rattle.sa_desk.specs.declared.answer.Polled.{Polled}
use Rattle.sa_desk.specs.declared.answer.Polled.TheVariants as polled
use Rattle.sa_desk.specs.declared.answer.Seen.{Seen}
use Rattle.sa_desk.specs.declared.answer.Seen.TheVariants as seen
use Rattle.sa_desk.specs.declared.answer.Withdrawn.{Withdrawn}
use Rattle.sa_desk.specs.declared.outcome.Finish.TheVariants.{Broken}
use Rattle.sa_desk.specs.declared.outcome.Outcome.{Outcome}
use Rattle.sa_desk.specs.declared.outcome.Outcome.TheVariants as outcome
use Rattle.sa_desk.specs.declared.outcome.StepStop.TheVariants.{Killed as ByKill}
use Rattle.sa_desk.specs.declared.stamp.Stamp.{Stamp}
use Rattle.sa_desk.specs.Contents.{Contents, state, phase}
use Rattle.sa_desk.specs.Serving.{is_killed}
use Rattle.sa_desk.specs.call.Ask.{ask_answer}
use Rattle.sa_desk.specs.call.Begin.{begin_answer}
use Rattle.sa_desk.specs.call.End.{outcome_of, end_answer}
use Rattle.sa_desk.specs.call.Kill.{kill_answer}
use Rattle.sa_desk.specs.call.Look as look
use Rattle.sa_desk.specs.call.Point.{point_answer}
use Rattle.sa_desk.specs.call.Poll as poll
use Rattle.sa_desk.specs.call.Withdraw.{withdrawn}
use Rattle.sa_desk.specs.program.Course.{Course, says, shows, waits, kills, runs, course_of, settings_after}
use Rattle.sa_desk.specs.program.Turn.{itself}
use Rattle.sa_worker.specs.View.{Stage, prepares, makes_steps, opens, closes, ends, asks, polls, looks_asking, withdraws, looks_waiting, points, ends_run, done, View}
use Rattle.sa_worker.specs.View as stage

-- a run of a plan of which no item is made
abbrev pub first_run : View → Planned → Progress
first_run view planned = record {
  statement = view.number;
  plan = planned.plan;
  data_read = view.given.tables;
  quantum = view.given.quantum;
  row_limit = view.settings.limit;
  steps = 0;
  since_looked = 0;
  failed = false;
}

-- a run after a look into it
abbrev pub looked_into : Progress → Progress
looked_into run = record run { since_looked = 0 }

-- what comes first after a Begin
abbrev pub begins : View → Course → Stage
begins view (says result) = ends result
begins view (shows kind desk) = asks kind desk
begins view (waits desk at) = stage.waits desk at 0
begins view (kills kind desk) = stage.kills kind desk
begins view (runs analyze planned) = makes_steps planned 0 (first_run view planned)

-- the outcome that an End shows
abbrev pub shown : Outcome → Ended → Outcome
shown due ended.Kept = due
shown due ended.Interrupted = outcome.Interrupted

module _ (view : View) where
  -- One turn more is made, and this comes next.
  abbrev pub goes_to : Stage → View
  goes_to stage = record view { turn = view.turn + 1; stage = stage }

  -- The statement has begun in this turn, or the session is gone.
  abbrev pub after_begin : Begun → View
  after_begin begun.Ok = record view {
    turn = view.turn + 1;
    began = view.turn + 1;
    stage = begins view (course_of view.given view.settings view.answer);
  }
  after_begin begun.Gone = goes_to closes

  -- The statement has ended, and this outcome was due.
  abbrev pub after_end : Outcome → Ended → View
  after_end due answer = record view {
    settings = settings_after view.settings view.answer (shown due answer);
    turn = view.turn + 1;
    number = view.number + 1;
    stage = prepares;
  }

  abbrev pub after_ask : AskKind → (desk : ℕ) → Asked → View
  after_ask kind desk asked.Queued = goes_to (polls kind desk 0)
  after_ask kind desk asked.NotExplainable = goes_to (ends outcome.NotExplainable)
  after_ask kind desk asked.NoSuchThread = goes_to (ends outcome.NoSuchThread)

  -- so many polls were answered NotYet before
  abbrev pub after_poll : AskKind → (desk count : ℕ) → Polled → View
  after_poll kind desk count (polled.Taken report begin) =
      goes_to (ends (outcome.Shown kind desk begin report))
  after_poll kind desk count (polled.Spent turns) = goes_to (ends (outcome.TimedOut turns))
  after_poll kind desk count polled.NotYet = goes_to (looks_asking kind desk (count + 1))

  abbrev pub after_look_asking : AskKind → (desk count : ℕ) → Seen → View
  after_look_asking kind desk count seen.Go = goes_to (polls kind desk count)
  after_look_asking kind desk count seen.Kill = goes_to (withdraws kind desk count)

  -- An answer that a withdrawal takes isn't shown.
  abbrev pub after_withdraw : Withdrawn → View
  after_withdraw answer = goes_to (ends outcome.Interrupted)

  abbrev pub after_kill : Killed → View
  after_kill killed.Ok = goes_to (ends outcome.KillSent)
  after_kill killed.NoSuchThread = goes_to (ends outcome.NoSuchThread)

  -- so many looks were answered NotYet before
  abbrev pub after_look : (desk at count : ℕ) → Looked → View
  after_look desk at count looked.NoSuchThread = goes_to (ends outcome.NoSuchThread)
  after_look desk at count (looked.Reached steps) = goes_to (ends (outcome.Waited steps))
  after_look desk at count (looked.Spent steps turns) = goes_to (ends (outcome.WaitSpent steps turns))
  after_look desk at count looked.NotYet = goes_to (looks_waiting desk at (count + 1))

  abbrev pub after_look_waiting : (desk at count : ℕ) → Seen → View
  after_look_waiting desk at count seen.Go = goes_to (stage.waits desk at count)
  after_look_waiting desk at count seen.Kill = goes_to (ends outcome.Interrupted)

  -- A run that was killed makes no step more.
  abbrev pub after_point : Planned → (made : ℕ) → Progress → Seen → View
  after_point planned made run seen.Go = goes_to (makes_steps planned (made + 1) (looked_into run))
  after_point planned made run seen.Kill =
      goes_to (ends_run planned (made + 1) (looked_into run) (Broken ByKill (looked_into run)))

  -- the view after the call of a stage, which met this at its desk
  abbrev pub next_at : Stage → Contents → Stamp → View
  next_at opens desk stamp = after_begin (begin_answer (state desk).doomed)
  next_at closes desk stamp = goes_to done
  next_at (ends result) desk stamp = after_end result (end_answer (is_killed (phase desk)))
  next_at (asks kind i) desk stamp = after_ask kind i (ask_answer (phase desk))
  next_at (polls kind i count) desk stamp = after_poll kind i count (poll.polled desk stamp view.number)
  next_at (looks_asking kind i count) desk stamp =
      after_look_asking kind i count (point_answer (is_killed (phase desk)))
  next_at (withdraws kind i count) desk stamp = after_withdraw (withdrawn desk stamp view.number)
  next_at (stage.kills kind i) desk stamp = after_kill (kill_answer (phase desk))
  next_at (stage.waits i at count) desk stamp =
      after_look i at count (look.looked desk stamp view.number at)
  next_at (looks_waiting i at count) desk stamp =
      after_look_waiting i at count (point_answer (is_killed (phase desk)))
  next_at (points planned made run) desk stamp =
      after_point planned made run (point_answer (is_killed (phase desk)))
  next_at (ends_run planned made run given) desk stamp =
      after_end (outcome_of itself given) (end_answer (is_killed (phase desk)))
  next_at stage desk stamp = view

-- the view after a turn, whose call met this at its desk
abbrev pub next_view : View → Contents → Stamp → View
next_view view = next_at view view.stage
