-- What a session's own entries on a desk say of the desk, without those of others.
use Rattle.std.specs.Prelude.{◌≡◌, ℕ, ◌⊎◌, List, [], ◌∷◌, Option, Some, None, All}
use Rattle.sa_plan.specs.declared.plan.Plan.{Plan}
use Rattle.sa_meaning.specs.Data.{RunData}
use Rattle.sa_desk.specs.declared.entry.Entry.{Entry}
use Rattle.sa_desk.specs.declared.entry.Event.{Event}
use Rattle.sa_desk.specs.declared.entry.Event.TheVariants.{Begin, Queued, Taken, Spent, Withdrawn, End, Close}
use Rattle.sa_desk.specs.State.{Phase, idle, unplanned, planned, serving, closed, State, HasNone, queue_of}
use Rattle.sa_desk.specs.Comes.{IsQueued, IsServed}

-- A phase without what the entries of others change of it: nothing is on, a statement without a
-- plan is, or one that runs a plan, each by its number and by the number and the turn of its Begin
-- entry, or the session is done.
pub data Outline : Type 0 where
  free : Outline
  plainly : (number begin turn : ℕ) → Outline
  running : (number begin turn : ℕ) (plan : Plan) (tables : RunData) → Outline
  over : Outline

abbrev pub outline : Phase → Outline
outline idle = free
outline (unplanned statement) = plainly statement.number statement.begin statement.turn
outline (planned statement execution) =
    running statement.number statement.begin statement.turn execution.plan execution.tables
outline (serving statement execution steps turn) =
    running statement.number statement.begin statement.turn execution.plan execution.tables
outline closed = over

-- A statement has just begun, with a plan over tables or without.
abbrev pub opened : ℕ → Entry → Option Plan → Option RunData → Outline
opened number entry (Some plan) (Some tables) = running number entry.seq entry.turn plan tables
opened number entry plan tables = plainly number entry.seq entry.turn

abbrev pub own_event : Outline → Entry → Event → Outline
own_event was entry (Begin number text version plan tables) = opened number entry plan tables
own_event was entry (End number outcome steps) = free
own_event was entry Close = over
own_event was entry event = was

-- the outline after these entries of the desk's own session
abbrev pub own_from : Outline → List Entry → Outline
own_from was [] = was
own_from was (entry ∷ rest) = own_from (own_event was entry entry.event) rest

-- A session's request here, by the number of its statement, if one is open.
abbrev pub request_event : Option ℕ → Event → Option ℕ
request_event was (Queued number kind at budget) = Some number
request_event was (Taken number) = None
request_event was (Spent number turns) = None
request_event was (Withdrawn number) = None
request_event was event = was

-- the request after these entries of the session
abbrev pub request_from : Option ℕ → List Entry → Option ℕ
request_from was [] = was
request_from was (entry ∷ rest) = request_from (request_event was entry.event) rest

-- The session's request of this number waits here or was served, and it has no other.
pub record HasOne (session number : ℕ) (state : State) : Type 0 where
  pub there : IsQueued session number (queue_of state.phase) ⊎ IsServed session number state.replies
  pub waits : All (λ request. request.asker ≡ session → request.request ≡ number) (queue_of state.phase)
  pub served : All (λ reply. reply.asker ≡ session → reply.request ≡ number) state.replies

-- The state has the session's request that is open, and no other.
abbrev pub HasOpen : Option ℕ → ℕ → State → Type 0
HasOpen None session state = HasNone session state.phase state.replies
HasOpen (Some number) session state = HasOne session number state
