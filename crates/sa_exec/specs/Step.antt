-- When a step of a run fails.
use Rattle.std.specs.Prelude.{◌≡◌, ℕ, ◌+◌, ◌<◌, ◌≤◌, length}
use Rattle.sa_meaning.specs.Output.{kept}
use Rattle.sa_meaning.specs.Progress.{Progress, EmitsAt}

-- how many rows a run keeps at most
abbrev pub most_rows : ℕ
most_rows = 65536

-- As many steps are made as may be.
abbrev pub IsAtLimit : Progress → Type 0
IsAtLimit run = run.steps ≡ run.row_limit

-- More steps may be made, and the next item would give one row more than may be kept.
abbrev pub IsTooMany : Progress → Type 0
IsTooMany run =
    (run.steps < run.row_limit) × (most_rows < length (kept run.plan run.data_read (run.steps + 1)))

-- More steps may be made, the next item gives a row, and that row may be kept.
pub record MayLackMemory (run : Progress) : Type 0 where
  pub below_limit : run.steps < run.row_limit
  pub few : length (kept run.plan run.data_read (run.steps + 1)) ≤ most_rows
  pub emits : EmitsAt run.plan run.data_read run.steps
