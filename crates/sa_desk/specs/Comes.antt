-- Which entry may come next in a desk's journal.
-- Source: MariaDB Knowledge Base, "SHOW EXPLAIN", "SHOW ANALYZE" and "KILL", in this project's own profile.
use Rattle.std.specs.Prelude.{◌≡◌, ℕ, ◌+◌, ◌/◌, ◌≤◌, ◌⊎◌, ◌↔◌, ⊤, true, false, List, [], ◌∷◌, Some, None, IsSome, Any}
use Rattle.sa_meaning.specs.Counts.{counts}
use Rattle.sa_count.specs.declared.report.Report.{Report}
use Rattle.sa_desk.specs.declared.entry.Entry.{Entry}
use Rattle.sa_desk.specs.declared.entry.Event.{Event}
use Rattle.sa_desk.specs.declared.entry.Event.TheVariants.{Begin, Queued, Refused, Served, Taken, Spent, Withdrawn, KillSent, Waited, WaitSpent, End, Gone, Close}
use Rattle.sa_desk.specs.declared.entry.RefusedWhy.TheVariants.{NotExplainable, NoSuchThread}
use Rattle.sa_desk.specs.declared.outcome.Outcome.TheVariants.{Interrupted}
use Rattle.sa_desk.specs.declared.request.Request.{Request}
use Rattle.sa_desk.specs.declared.request.Reply.{Reply}
use Rattle.sa_desk.specs.State.{Terms, Statement, Execution, Phase, idle, unplanned, planned, serving, closed, State, IsLawful, IsPublished, HasNone}

-- The entry is of the desk's own session.
abbrev pub IsOwn : Terms → Entry → Type 0
IsOwn terms entry = entry.actor ≡ terms.desk

-- The version of the tables that a statement may read: the first one, as no statement changes them.
abbrev pub IsVersion : ℕ → Type 0
IsVersion version = version ≡ 0

-- The actor's request of this number waits, or was served.
abbrev pub IsQueued : ℕ → ℕ → List Request → Type 0
IsQueued actor number queue =
    Any (λ request. (request.asker ≡ actor) × (request.request ≡ number)) queue

abbrev pub IsServed : ℕ → ℕ → List Reply → Type 0
IsServed actor number replies = Any (λ reply. (reply.asker ≡ actor) × (reply.request ≡ number)) replies

-- The oldest request is served, at the end of the turn after the one that it was queued in, or by
-- the statement's End in that turn: so with a quantum more steps than it was queued at, or with as
-- many as the End then has, which lie between.
pub record Serves (terms : Terms) (statement : Statement) (execution : Execution) (first : Request)
    (entry : Entry) (asker number : ℕ) (report : Report) : Type 0 where
  pub own : IsOwn terms entry
  pub asked : (first.asker ≡ asker) × (first.request ≡ number)
  pub turn : entry.turn ≡ statement.turn + first.at / terms.quantum + 1
  pub counted : report ≡ counts statement.number execution.plan execution.tables report.steps
  pub least : first.at ≤ report.steps
  pub most : report.steps ≤ first.at + terms.quantum

abbrev pub ServesFirst : Terms → Statement → Execution → List Request → Entry → ℕ → ℕ → Report → Type 0
ServesFirst terms statement execution [] entry asker number report = ⊥
ServesFirst terms statement execution (first ∷ rest) entry asker number report =
    Serves terms statement execution first entry asker number report

-- An End is of the statement that is on, and is Interrupted exactly where that was killed.
pub record Ends (terms : Terms) (statement : Statement) (entry : Entry) (number : ℕ)
    (interrupted : Type 0) : Type 0 where
  pub own : IsOwn terms entry
  pub on : number ≡ statement.number
  pub killed : interrupted ↔ (statement.killed ≡ true)

-- An End of a run leaves nobody waiting, and has the steps and the turn that a served request has
-- fixed.
pub record Settles (execution : Execution) (entry : Entry) (steps : ℕ) : Type 0 where
  pub served : execution.queue ≡ []
  pub rising : execution.shown ≤ steps
  pub fixed : (execution.owed ≡ None) ⊎ (execution.owed ≡ Some (steps, entry.turn))

-- The table of entries and phases. Whatever isn't listed never comes.
abbrev pub ComesIn : Terms → State → Entry → Phase → Event → Type 0
ComesIn terms state entry idle (Begin number text version plan tables) =
    IsOwn terms entry × (state.doomed ≡ false) × IsVersion version × (IsSome plan ↔ IsSome tables)
ComesIn terms state entry phase (Begin number text version plan tables) = ⊥
ComesIn terms state entry idle (Gone number) = IsOwn terms entry × (state.doomed ≡ true)
ComesIn terms state entry phase (Gone number) = ⊥
-- a request
ComesIn terms state entry (planned statement execution) (Queued number kind at budget) =
    HasNone entry.actor state.phase state.replies × IsPublished terms.quantum execution at
    × (budget ≡ terms.turns)
ComesIn terms state entry phase (Queued number kind at budget) = ⊥
ComesIn terms state entry idle (Refused number NotExplainable) = ⊤
ComesIn terms state entry (unplanned statement) (Refused number NotExplainable) = ⊤
ComesIn terms state entry closed (Refused number NoSuchThread) = ⊤
ComesIn terms state entry phase (Refused number why) = ⊥
-- its answer
ComesIn terms state entry (planned statement execution) (Served asker number report) =
    ServesFirst terms statement execution execution.queue entry asker number report
ComesIn terms state entry (serving statement execution steps turn) (Served asker number report) =
    ServesFirst terms statement execution execution.queue entry asker number report
    × (report.steps ≡ steps) × (entry.turn ≡ turn)
ComesIn terms state entry phase (Served asker number report) = ⊥
-- its end
ComesIn terms state entry (serving statement execution steps turn) (Taken number) = ⊥
ComesIn terms state entry phase (Taken number) = IsServed entry.actor number state.replies
ComesIn terms state entry (planned statement execution) (Spent number turns) =
    IsQueued entry.actor number execution.queue × (turns ≡ terms.turns)
ComesIn terms state entry phase (Spent number turns) = ⊥
ComesIn terms state entry (planned statement execution) (Withdrawn number) =
    IsQueued entry.actor number execution.queue
ComesIn terms state entry phase (Withdrawn number) = ⊥
-- a kill
ComesIn terms state entry (serving statement execution steps turn) (KillSent number kind) = ⊥
ComesIn terms state entry closed (KillSent number kind) = ⊥
ComesIn terms state entry phase (KillSent number kind) = ⊤
-- a wait
ComesIn terms state entry (serving statement execution number turn) (Waited waiter steps) = ⊥
ComesIn terms state entry closed (Waited waiter steps) = ⊥
ComesIn terms state entry phase (Waited waiter steps) = IsLawful terms.quantum phase steps
ComesIn terms state entry (serving statement execution number turn) (WaitSpent waiter steps turns) = ⊥
ComesIn terms state entry closed (WaitSpent waiter steps turns) = ⊥
ComesIn terms state entry phase (WaitSpent waiter steps turns) = IsLawful terms.quantum phase steps
-- the end of a statement, and of the session
ComesIn terms state entry (unplanned statement) (End number outcome steps) =
    Ends terms statement entry number (outcome ≡ Interrupted) × (steps ≡ 0)
ComesIn terms state entry (planned statement execution) (End number outcome steps) =
    Ends terms statement entry number (outcome ≡ Interrupted) × Settles execution entry steps
ComesIn terms state entry phase (End number outcome steps) = ⊥
ComesIn terms state entry idle Close = IsOwn terms entry
ComesIn terms state entry phase Close = ⊥

-- The entry may come next where a journal has left this state.
abbrev pub Comes : Terms → State → Entry → Type 0
Comes terms state entry = ComesIn terms state entry state.phase entry.event
