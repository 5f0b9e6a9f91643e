-- What the steps of a turn make of a run.
use Rattle.std.specs.Prelude.{◌≡◌, ℕ, ◌+◌, ◌<◌, ◌≤◌, false, length}
use Rattle.sa_meaning.specs.Items.{items}
use Rattle.sa_meaning.specs.Output.{kept}
use Rattle.sa_meaning.specs.Progress.{Progress, IsFinished, EmitsAt}
use Rattle.sa_exec.specs.declared.step.StepFault.{StepFault}
use Rattle.sa_exec.specs.declared.step.StepFault.TheVariants as fault
use Rattle.sa_desk.specs.declared.outcome.StepStop.{StepStop}
use Rattle.sa_desk.specs.declared.outcome.StepStop.TheVariants.{RowLimit, TooManyRows, OutOfMemory, Killed}
use Rattle.sa_desk.specs.program.RunEnds.{most_rows, IsClear}
use Rattle.sa_worker.specs.declared.steps.Pause.{Pause}
use Rattle.sa_worker.specs.declared.steps.Pause.TheVariants.{Full, Finished, Failed}

abbrev pub stop_for : StepFault → StepStop
stop_for fault.RowLimit = RowLimit
stop_for fault.TooManyRows = TooManyRows
stop_for fault.OutOfMemory = OutOfMemory

-- Why the step after those of the run can't be made.
abbrev pub Breaks : Progress → StepStop → Type 0
Breaks run RowLimit = run.steps ≡ run.row_limit
Breaks run TooManyRows =
    (run.steps < run.row_limit) × (most_rows < length (kept run.plan run.data_read (run.steps + 1)))
Breaks run OutOfMemory = IsClear run.row_limit run.plan run.data_read (run.steps + 1)
    × EmitsAt run.plan run.data_read run.steps
Breaks run Killed = ⊥

-- Where the run stands, which has made so many steps before.
abbrev pub Stands : (before : ℕ) → Progress → Pause → Type 0
Stands before run Full = (run.steps ≡ before + run.quantum)
    × (run.steps < length (items run.plan run.data_read)) × (run.failed ≡ false)
Stands before run Finished = IsFinished run
Stands before run (Failed stop) =
    (run.steps < length (items run.plan run.data_read)) × (run.steps < before + run.quantum)
    × Breaks run stop

-- Steps are made of the run, a quantum at most, and then they pause.
pub record MakesSteps (before after : Progress) (pause : Pause) : Type 0 where
  pub same : after
      ≡ record before {
        steps = after.steps;
        since_looked = after.since_looked;
        failed = after.failed;
      }
  pub least : before.steps ≤ after.steps
  pub most : after.steps ≤ before.steps + before.quantum
  pub clear : IsClear before.row_limit before.plan before.data_read after.steps
  pub stands : Stands before.steps after pause

-- So many steps are made, and items are left.
pub record IsUnderWay (before : Progress) (made : ℕ) (run : Progress) : Type 0 where
  pub same : run
      ≡ record before { steps = before.steps + made; since_looked = before.since_looked + made }
  pub more : run.steps < length (items run.plan run.data_read)
  pub clear : IsClear run.row_limit run.plan run.data_read run.steps
