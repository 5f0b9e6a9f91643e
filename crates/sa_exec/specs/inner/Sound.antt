-- What a run's fields say of its progress.
use Rattle.std.specs.Prelude.{◌≡◌, ℕ, ◌≤◌, ◌^◌, List, length, take, drop}
use Rattle.sa_value.specs.declared.value.Value.{Value}
use Rattle.sa_table.specs.Sound.{AreSound}
use Rattle.sa_table.specs.Table.{row_count}
use Rattle.sa_plan.specs.declared.plan.Plan.{Plan}
use Rattle.sa_plan.specs.Lawful.{IsLawful}
use Rattle.sa_meaning.specs.Data.{RunData}
use Rattle.sa_meaning.specs.Items.{items}
use Rattle.sa_meaning.specs.Counts.{counters_of}
use Rattle.sa_meaning.specs.Output.{kept}
use Rattle.sa_meaning.specs.Progress.{Progress, IsRunnable}
use Rattle.sa_exec.specs.declared.level.LevelState.{LevelState}
use Rattle.sa_exec.specs.declared.run.Run.TheInside.{Inside}
use Rattle.sa_exec.specs.Step.{most_rows}
use Rattle.sa_exec.specs.inner.Place.{only_level, items_left, IsPlaced}

-- the progress that the fields stand for
abbrev pub progress_of : Inside → Progress
progress_of run = record {
  statement = run.statement;
  plan = run.plan;
  data_read = run.tables;
  quantum = run.quantum;
  row_limit = run.row_limit;
  steps = run.steps;
  since_looked = run.since_looked;
  failed = run.failed;
}

-- After so many items the level's state and the rows are these.
pub record IsAt (tables : RunData) (plan : Plan) (steps : ℕ) (state : LevelState)
    (rows : List (List Value)) : Type 0 where
  pub within : steps ≤ length (items plan tables)
  pub left : drop steps (items plan tables)
      ≡ items_left tables plan.select (only_level plan) state.place
  pub placed : IsPlaced state.count state.place
  pub count : state.count ≡ row_count tables (only_level plan).table
  pub counters : state.counters ≡ counters_of (take steps (items plan tables)) 0
  pub kept_is : rows ≡ kept plan tables steps
  pub few : length rows ≤ most_rows

-- The plan fits the tables, the run keeps its limits, and it is where its steps have led it.
pub record IsSound (run : Inside) : Type 0 where
  pub sound : AreSound run.tables
  pub lawful : IsLawful run.tables run.plan
  pub runnable : IsRunnable run.plan
  pub quantum : run.quantum ≤ 64
  pub row_limit : run.row_limit ≤ 2 ^ 40
  pub limited : run.steps ≤ run.row_limit
  pub looked : run.since_looked ≤ run.quantum
  pub at : IsAt run.tables run.plan run.steps run.level run.rows
