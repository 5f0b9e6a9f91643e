-- When the next item of a run can be made.
use Rattle.std.specs.Prelude.{◌≡◌, ◌<◌, ◌^◌}
use Rattle.sa_count.specs.declared.counters.Counters.{Counters}
use Rattle.sa_table.specs.Sound.{AreSound}
use Rattle.sa_table.specs.Table.{row_count}
use Rattle.sa_plan.specs.declared.plan.Plan.{Plan}
use Rattle.sa_plan.specs.Lawful.{IsLawful}
use Rattle.sa_meaning.specs.Data.{RunData}
use Rattle.sa_meaning.specs.Progress.{IsRunnable}
use Rattle.sa_exec.specs.declared.level.LevelState.{LevelState}
use Rattle.sa_exec.specs.inner.Place.{only_level, HasNext}

-- Each counter can be raised.
pub record HasRoom (counters : Counters) : Type 0 where
  pub loops : counters.loops < 2 ^ 63
  pub rows : counters.rows < 2 ^ 63
  pub passed : counters.passed < 2 ^ 63

-- The plan fits the tables, it can be run, and an item is left.
pub record IsReady (tables : RunData) (plan : Plan) (state : LevelState) : Type 0 where
  pub sound : AreSound tables
  pub lawful : IsLawful tables plan
  pub runnable : IsRunnable plan
  pub count : state.count ≡ row_count tables (only_level plan).table
  pub next : HasNext state.count state.place
  pub room : HasRoom state.counters
