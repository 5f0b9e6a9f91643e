-- What a desk's journal, read so far, says of its session.
use Rattle.std.specs.Prelude.{◌≡◌, ◌≢◌, ⊤, ℕ, ◌*◌, ◌<◌, ◌≤◌, ◌⊎◌, Bool, false, List, [], length, Option, None, All}
use Rattle.sa_plan.specs.declared.plan.Plan.{Plan}
use Rattle.sa_meaning.specs.Data.{RunData}
use Rattle.sa_meaning.specs.Items.{items}
use Rattle.sa_desk.specs.declared.request.Request.{Request}
use Rattle.sa_desk.specs.declared.request.Reply.{Reply}

-- What is fixed for a desk: its number, how many steps its session makes in a turn, and how many
-- turns a request or a wait lasts.
pub record Terms : Type 0 where
  pub desk : ℕ
  pub quantum : ℕ
  pub turns : ℕ

-- A statement that has begun and not ended.
pub record Statement : Type 0 where
  pub number : ℕ
  -- the number and the turn of its Begin entry
  pub begin : ℕ
  pub turn : ℕ
  -- whether a kill stands for it
  pub killed : Bool

-- What other sessions may look into while a statement with a plan is on.
pub record Execution : Type 0 where
  -- the plan, and the tables that it is run over
  pub plan : Plan
  pub tables : RunData
  -- the last number of steps that an entry shows
  pub shown : ℕ
  -- the requests that wait, oldest first
  pub queue : List Request
  -- the steps and the turn that the statement's End must have, where a served request has fixed them
  pub owed : Option (ℕ × ℕ)

-- A session is between two statements, runs one without a plan or with one, is serving the requests at
-- such a statement, all with one number of steps and in one turn, or is done.
pub data Phase : Type 0 where
  idle : Phase
  unplanned : (statement : Statement) → Phase
  planned : (statement : Statement) (execution : Execution) → Phase
  serving : (statement : Statement) (execution : Execution) (steps turn : ℕ) → Phase
  closed : Phase

pub record State : Type 0 where
  pub phase : Phase
  -- whether a KILL CONNECTION stands
  pub doomed : Bool
  -- the requests that were served and not yet taken
  pub replies : List Reply

-- a new desk
abbrev pub start : State
start = record { phase = idle; doomed = false; replies = [] }

-- the requests that wait
abbrev pub queue_of : Phase → List Request
queue_of idle = []
queue_of (unplanned statement) = []
queue_of (planned statement execution) = execution.queue
queue_of (serving statement execution steps turn) = execution.queue
queue_of closed = []

-- No batch of requests is half served, and no request has been served whose number the End must have.
abbrev pub IsSettled : Phase → Type 0
IsSettled (planned statement execution) = execution.owed ≡ None
IsSettled (serving statement execution steps turn) = ⊥
IsSettled phase = ⊤

-- A number of steps that a session may have published while it runs this: a multiple of the quantum
-- that isn't the last number of all, not below what was shown, and just that while requests wait.
pub record IsPublished (quantum : ℕ) (execution : Execution) (steps : ℕ) : Type 0 where
  pub whole_turns : (turns : ℕ) × (steps ≡ turns * quantum)
  pub unfinished : (steps ≡ 0) ⊎ (steps < length (items execution.plan execution.tables))
  pub rising : execution.shown ≤ steps
  pub fixed : execution.queue ≢ [] → steps ≡ execution.shown

-- The lawful numbers: 0 where nothing with a plan is on.
abbrev pub IsLawful : ℕ → Phase → ℕ → Type 0
IsLawful quantum idle steps = steps ≡ 0
IsLawful quantum (unplanned statement) steps = steps ≡ 0
IsLawful quantum (planned statement execution) steps = IsPublished quantum execution steps
IsLawful quantum (serving statement execution number turn) steps = IsPublished quantum execution steps
IsLawful quantum closed steps = steps ≡ 0

-- The actor has no request here, neither waiting nor served.
abbrev pub HasNone : ℕ → Phase → List Reply → Type 0
HasNone actor phase replies = All (λ request. request.asker ≢ actor) (queue_of phase)
    × All (λ reply. reply.asker ≢ actor) replies
