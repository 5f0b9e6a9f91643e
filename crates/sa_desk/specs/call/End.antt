-- A session ends its statement.
use Rattle.std.specs.Prelude.{◌≡◌, ℕ, ◌+◌, ◌/◌, ◌≤◌, Bool, true, ⊤, List, [], ◌∷◌, ◌++◌, length, Option, Some, None, IfSome, if◌then◌else◌}
use Rattle.sa_meaning.specs.Output.{output}
use Rattle.sa_meaning.specs.Progress.{Progress, IsFinished}
use Rattle.sa_desk.specs.declared.entry.Entry.{Entry}
use Rattle.sa_desk.specs.declared.entry.Event.TheVariants as event
use Rattle.sa_desk.specs.declared.answer.Ended.{Ended}
use Rattle.sa_desk.specs.declared.answer.Ended.TheVariants.{Kept, Interrupted}
use Rattle.sa_desk.specs.declared.outcome.Finish.{Finish}
use Rattle.sa_desk.specs.declared.outcome.Finish.TheVariants.{Plain, Rows, Analyzed, Broken}
use Rattle.sa_desk.specs.declared.outcome.Outcome.{Outcome}
use Rattle.sa_desk.specs.declared.outcome.Outcome.TheVariants as outcome
use Rattle.sa_desk.specs.declared.outcome.StepStop.{StepStop}
use Rattle.sa_desk.specs.declared.outcome.StepStop.TheVariants.{RowLimit, TooManyRows, OutOfMemory, Killed}
use Rattle.sa_desk.specs.declared.stamp.Stamp.{Stamp}
use Rattle.sa_desk.specs.State.{Phase, unplanned, planned}
use Rattle.sa_desk.specs.Contents.{Contents, phase, IsCaller, IsOwner, HasRoom, entry_by, later, with_entries}
use Rattle.sa_desk.specs.Serving.{served_entries, report_of, IsRunOf, begin_turn, is_killed}

-- Interrupted where a kill stands.
abbrev pub end_answer : Bool → Ended
end_answer killed = if killed then Interrupted else Kept

-- how a statement ends whose run stopped
abbrev pub stopped : StepStop → Outcome
stopped RowLimit = outcome.RowLimit
stopped TooManyRows = outcome.TooManyRows
stopped OutOfMemory = outcome.OutOfMemory
stopped Killed = outcome.Interrupted

module _ {R : Type 0} (progress : R → Progress) where
  -- the run that the end is given
  abbrev pub run_of : Finish R → Option Progress
  run_of (Plain outcome) = None
  run_of (Rows names run) = Some (progress run)
  run_of (Analyzed plan run) = Some (progress run)
  run_of (Broken fault run) = Some (progress run)

  -- The end fits: rows and counters are of a finished run, and Interrupted is only for what is killed.
  abbrev pub Fits : Bool → Finish R → Type 0
  Fits killed (Plain given) = given ≡ outcome.Interrupted → killed ≡ true
  Fits killed (Rows names run) = IsFinished (progress run)
  Fits killed (Analyzed plan run) = IsFinished (progress run)
  Fits killed (Broken fault run) = fault ≡ Killed → killed ≡ true

  -- the outcome where no kill stands
  abbrev pub outcome_of : Finish R → Outcome
  outcome_of (Plain given) = given
  outcome_of (Rows names run) = let made =
      progress run in outcome.Rows names (output made.plan made.data_read)
  outcome_of (Analyzed plan run) = outcome.Analyzed plan (report_of (progress run))
  outcome_of (Broken fault run) = stopped fault

-- the steps of the run, and none without one
abbrev pub steps_of : Option Progress → ℕ
steps_of None = 0
steps_of (Some run) = run.steps

-- A run is given exactly where a plan is on, and it is of that plan.
abbrev pub IsGivenRun : Phase → Option Progress → Type 0
IsGivenRun (unplanned statement) None = ⊤
IsGivenRun (planned statement execution) (Some run) = IsRunOf (planned statement execution) run
IsGivenRun phase run = ⊥

-- a run has made at most a quantum of steps more than are published, and its turn follows those
-- that were
pub record IsTimely (desk : Contents) (stamp : Stamp) (run : Progress) : Type 0 where
  pub least : desk.published ≤ run.steps
  pub most : run.steps ≤ desk.published + desk.terms.quantum
  pub turn : stamp.turn ≡ begin_turn (phase desk) + desk.published / desk.terms.quantum + 1

-- whoever waits is served by the run, if there is one
abbrev pub served_by : Contents → Stamp → Option Progress → List Entry
served_by desk stamp None = []
served_by desk stamp (Some run) = served_entries desk stamp run

module _ (desk : Contents) (stamp : Stamp) (number : ℕ) (run : Option Progress) (given : Outcome) where
  -- The End comes after those that are served, and is Interrupted where a kill stands.
  abbrev pub end_entry : Entry
  end_entry =
      let outcome = if is_killed (phase desk) then outcome.Interrupted else given in
      entry_by desk (later (length (served_by desk stamp run)) stamp)
      (event.End number outcome (steps_of run))

  abbrev pub end_entries : List Entry
  end_entries = served_by desk stamp run ++ end_entry ∷ []

  -- nothing is published any more
  abbrev pub after_end : Contents
  after_end = record (with_entries end_entries desk) { published = 0 }

-- the statement that is on, by its number
abbrev pub IsOn : ℕ → Phase → Type 0
IsOn number (unplanned statement) = number ≡ statement.number
IsOn number (planned statement execution) = number ≡ statement.number
IsOn number phase = ⊥

-- The caller's statement of this number is on, and what it is given fits.
pub record MayEnd {R : Type 0} (progress : R → Progress) (desk : Contents) (stamp : Stamp)
    (number : ℕ) (finish : Finish R) : Type 0 where
  pub caller : IsCaller desk stamp
  pub own : IsOwner desk stamp
  pub on : IsOn number (phase desk)
  pub run : IsGivenRun (phase desk) (run_of progress finish)
  pub timely : IfSome (run_of progress finish) (IsTimely desk stamp)
  pub fits : Fits progress (is_killed (phase desk)) finish
  pub room : HasRoom desk stamp.actor
      (end_entries desk stamp number (run_of progress finish) (outcome_of progress finish))
