-- What a run is of, and how far it has come.
use Rattle.std.specs.Prelude.{◌≡◌, ℕ, Bool, All, length, slice_get, IsSomeAnd, ⊤}
use Rattle.sa_plan.specs.declared.access.Access.TheVariants as access
use Rattle.sa_plan.specs.declared.plan.Level.{Level}
use Rattle.sa_plan.specs.declared.plan.Plan.{Plan}
use Rattle.sa_meaning.specs.Data.{RunData}
use Rattle.sa_meaning.specs.Items.{RunItem, open_level, read_row, emit_row, items}

-- A run of this statement makes the items of its plan over these data.
pub record Progress : Type 0 where
  pub statement : ℕ
  pub plan : Plan
  pub data_read : RunData
  -- how many steps it makes at most without being looked into
  pub quantum : ℕ
  -- how many steps it makes at most
  pub row_limit : ℕ
  -- how many items it has made
  pub steps : ℕ
  -- how many of them since it was last looked into
  pub since_looked : ℕ
  -- whether a step failed
  pub failed : Bool

-- All items are made.
abbrev pub IsFinished : Progress → Type 0
IsFinished run = run.steps ≡ length (items run.plan run.data_read)

-- An emit, which is the only item that takes memory.
abbrev pub Emits : RunItem → Type 0
Emits (open_level level) = ⊥
Emits (read_row level passed) = ⊥
Emits (emit_row row) = ⊤

-- The item behind the first so many is an emit.
unfoldable pub EmitsAt : Plan → RunData → ℕ → Type 0
EmitsAt plan tables steps = IsSomeAnd (slice_get (items plan tables) steps) Emits

-- The plans that can be run today: those of one level, which reads its whole table by ALL.
pub record IsRunnable (plan : Plan) : Type 0 where
  pub one : length plan.levels ≡ 1
  pub whole : All (λ (level : Level). level.access ≡ access.All) plan.levels
