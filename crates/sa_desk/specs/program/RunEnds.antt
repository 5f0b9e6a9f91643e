-- How a statement with a run ends: after how many steps, with which outcome, in which turn.
use Rattle.std.specs.Prelude.{◌≡◌, ℕ, ◌+◌, ◌*◌, ◌<◌, ◌≤◌, ◌⊎◌, Bool, true, false, length}
use Rattle.sa_plan.specs.declared.plan.Plan.{Plan}
use Rattle.sa_plan.specs.declared.plan.Planned.{Planned}
use Rattle.sa_meaning.specs.Data.{RunData}
use Rattle.sa_meaning.specs.Items.{items}
use Rattle.sa_meaning.specs.Counts.{counts}
use Rattle.sa_meaning.specs.Output.{output, kept}
use Rattle.sa_meaning.specs.Progress.{EmitsAt}
use Rattle.sa_desk.specs.declared.outcome.Outcome.{Outcome}
use Rattle.sa_desk.specs.declared.outcome.Outcome.TheVariants as outcome
use Rattle.sa_desk.specs.program.Course.{Given, names_of}

-- A run keeps at most so many rows.
abbrev pub most_rows : ℕ
most_rows = 65536

-- A run has come to so many steps with nothing refused on the way.
abbrev pub IsClear : (limit : ℕ) → Plan → RunData → ℕ → Type 0
IsClear limit plan tables steps = (steps ≤ limit) × (length (kept plan tables steps) ≤ most_rows)

-- so many turns are the steps over the quantum, rounded up, and rounded down
abbrev pub IsRoundedUp : (steps quantum turns : ℕ) → Type 0
IsRoundedUp steps quantum turns = (steps ≤ turns * quantum) × (turns * quantum < steps + quantum)

abbrev pub IsRoundedDown : (steps quantum turns : ℕ) → Type 0
IsRoundedDown steps quantum turns = (turns * quantum ≤ steps) × (steps < turns * quantum + quantum)

-- The last turn of a run of so many steps that began in turn b: each full turn makes a quantum of them.
abbrev pub IsLastTurn : (quantum b steps turn : ℕ) → Type 0
IsLastTurn quantum b steps turn =
    (steps ≡ 0) × (turn ≡ b + 1)
    ⊎ (0 < steps) × (turns : ℕ) × IsRoundedUp steps quantum turns × (turn ≡ b + turns)

-- The run made all items.
pub record IsWhole (given : Given) (limit b : ℕ) (plan : Plan) (steps turn : ℕ) : Type 0 where
  pub all : steps ≡ length (items plan given.tables)
  pub clear : IsClear limit plan given.tables steps
  pub last : IsLastTurn given.quantum b steps turn

-- The run stopped before all items were made.
pub record IsCut (given : Given) (limit b : ℕ) (plan : Plan) (steps turn : ℕ) : Type 0 where
  pub more : steps < length (items plan given.tables)
  pub clear : IsClear limit plan given.tables steps
  pub turns : ℕ
  pub rounded : IsRoundedDown steps given.quantum turns
  pub last : turn ≡ b + turns + 1

-- A SELECT or an ANALYZE of this plan ends so. A refusal comes at its own step and at no later one.
-- Memory runs out only where the next item takes some. A kill is seen only where the run was looked
-- into.
module _ (given : Given) (limit number b : ℕ) where
  abbrev pub RunEnds : Bool → Planned → (steps turn : ℕ) → Outcome → Type 0
  RunEnds false planned steps turn (outcome.Rows names rows) =
      (names ≡ names_of planned.plan) × (rows ≡ output planned.plan given.tables)
      × IsWhole given limit b planned.plan steps turn
  RunEnds true planned steps turn (outcome.Analyzed plan report) =
      (plan ≡ planned.plan) × (report ≡ counts number planned.plan given.tables steps)
      × IsWhole given limit b planned.plan steps turn
  RunEnds analyze planned steps turn outcome.RowLimit =
      IsCut given limit b planned.plan steps turn × (steps ≡ limit)
  RunEnds analyze planned steps turn outcome.TooManyRows =
      IsCut given limit b planned.plan steps turn × (steps < limit)
      × (most_rows < length (kept planned.plan given.tables (steps + 1)))
  RunEnds analyze planned steps turn outcome.OutOfMemory =
      IsCut given limit b planned.plan steps turn
      × IsClear limit planned.plan given.tables (steps + 1) ×
      EmitsAt planned.plan given.tables steps
  RunEnds analyze planned steps turn outcome.Interrupted =
      IsCut given limit b planned.plan steps turn × (turns : ℕ) × (1 ≤ turns)
      × (steps ≡ turns * given.quantum)
  RunEnds analyze planned steps turn result = ⊥

  -- After so many points the run has items left, and nothing was refused.
  abbrev pub RunsOn : Planned → (points : ℕ) → Type 0
  RunsOn planned points =
      let steps = points * given.quantum in
      (points ≡ 0)
      ⊎ (steps < length (items planned.plan given.tables))
      × IsClear limit planned.plan given.tables steps
