-- What an entry leaves of a desk's state.
use Rattle.std.specs.Prelude.{ℕ, ◌+◌, true, false, not, ◌==◌, ◌||◌, Bool, List, [], ◌∷◌, ◌++◌, filter, Option, Some, None, if◌then◌else◌}
use Rattle.sa_ast.specs.declared.kind.KillKind.{KillKind}
use Rattle.sa_ast.specs.declared.kind.KillKind.TheVariants.{Query, Connection}
use Rattle.sa_plan.specs.declared.plan.Plan.{Plan}
use Rattle.sa_meaning.specs.Data.{RunData}
use Rattle.sa_desk.specs.declared.entry.Entry.{Entry}
use Rattle.sa_desk.specs.declared.entry.Event.{Event}
use Rattle.sa_desk.specs.declared.entry.Event.TheVariants.{Begin, Queued, Refused, Served, Taken, Spent, Withdrawn, KillSent, Waited, WaitSpent, End, Gone, Close}
use Rattle.sa_desk.specs.declared.request.Request.{Request}
use Rattle.sa_desk.specs.declared.request.Reply.{Reply}
use Rattle.sa_desk.specs.State.{Terms, Statement, Execution, Phase, idle, unplanned, planned, serving, closed, State}

-- A statement has just begun, with a plan over tables or without.
abbrev pub begun : Statement → Option Plan → Option RunData → Phase
begun statement (Some plan) (Some tables) =
    planned statement (record { plan = plan; tables = tables; shown = 0; queue = []; owed = None })
begun statement plan tables = unplanned statement

-- the requests, and the answers, without those of an actor
abbrev pub without : ℕ → List Request → List Request
without actor queue = filter (λ request. not (request.asker == actor)) queue

abbrev pub untaken : ℕ → List Reply → List Reply
untaken actor replies = filter (λ reply. not (reply.asker == actor)) replies

-- The execution after an entry shows this number.
abbrev pub showing : Phase → ℕ → Phase
showing (planned statement execution) steps = planned statement (record execution { shown = steps })
showing phase steps = phase

-- A request waits last in the queue.
abbrev pub queued : Phase → Request → Phase
queued (planned statement execution) request =
    planned statement (record execution { shown = request.at; queue = execution.queue ++ request ∷ [] })
queued phase request = phase

-- The actor's request is taken out of the queue.
abbrev pub taken_out : Phase → ℕ → Phase
taken_out (planned statement execution) actor =
    planned statement (record execution { queue = without actor execution.queue })
taken_out phase actor = phase

-- Where others still wait, they are served next.
abbrev pub still_serving : Statement → Execution → List Request → ℕ → ℕ → Phase
still_serving statement execution [] steps turn = planned statement execution
still_serving statement execution (next ∷ rest) steps turn = serving statement execution steps turn

-- What the End must have stays so: the first number that was served counts.
abbrev pub first_owed : Option (ℕ × ℕ) → ℕ × ℕ → Option (ℕ × ℕ)
first_owed None last = Some last
first_owed (Some first) last = Some first

-- The oldest request is served with this number of steps. Where that isn't a quantum more than it
-- was queued at, the End has it.
abbrev pub served : ℕ → Statement → Execution → List Request → ℕ → ℕ → Phase
served quantum statement execution [] steps turn = planned statement execution
served quantum statement execution (first ∷ rest) steps turn =
    let owed : Option (ℕ × ℕ) = if steps == first.at + quantum then execution.owed
    else first_owed execution.owed (steps, turn) in
    still_serving statement
    (record execution { shown = steps; queue = rest; owed = owed }) rest steps turn

abbrev pub after_serving : ℕ → Phase → ℕ → ℕ → Phase
after_serving quantum (planned statement execution) steps turn =
    served quantum statement execution execution.queue steps turn
after_serving quantum (serving statement execution number at) steps turn =
    served quantum statement execution execution.queue steps turn
after_serving quantum phase steps turn = phase

-- the number of the Begin entry of the statement that is on
abbrev pub begin_of : Phase → ℕ
begin_of (unplanned statement) = statement.begin
begin_of (planned statement execution) = statement.begin
begin_of (serving statement execution steps turn) = statement.begin
begin_of phase = 0

-- The statement that is on, if one is, is killed.
abbrev pub killed : Phase → Phase
killed (unplanned statement) = unplanned (record statement { killed = true })
killed (planned statement execution) = planned (record statement { killed = true }) execution
killed phase = phase

-- A KILL CONNECTION dooms the session.
abbrev pub dooms : KillKind → Bool
dooms Query = false
dooms Connection = true

-- The state after this event.
abbrev pub after_event : Terms → State → Entry → Event → State
after_event terms state entry (Begin number text version plan tables) =
    let statement : Statement =
    record { number = number; begin = entry.seq; turn = entry.turn; killed = false } in
    record state { phase = begun statement plan tables }
after_event terms state entry (Queued number kind at budget) =
    record state {
      phase = queued state.phase
          (record { asker = entry.actor; request = number; at = at });
    }
after_event terms state entry (Served asker number report) =
    let reply : Reply =
    record { asker = asker; request = number; report = report; begin = begin_of state.phase } in
    record state {
      phase = after_serving terms.quantum state.phase report.steps entry.turn;
      replies = state.replies ++ reply ∷ [];
    }
after_event terms state entry (Taken number) =
    record state { replies = untaken entry.actor state.replies }
after_event terms state entry (Spent number turns) =
    record state { phase = taken_out state.phase entry.actor }
after_event terms state entry (Withdrawn number) =
    record state { phase = taken_out state.phase entry.actor }
after_event terms state entry (KillSent number kind) =
    record state { phase = killed state.phase; doomed = state.doomed || dooms kind }
after_event terms state entry (Waited number steps) = record state { phase = showing state.phase steps }
after_event terms state entry (WaitSpent number steps turns) =
    record state { phase = showing state.phase steps }
after_event terms state entry (End number outcome steps) = record state { phase = idle }
after_event terms state entry Close = record state { phase = closed }
-- a refusal and a Gone leave all as it was
after_event terms state entry (Refused number why) = state
after_event terms state entry (Gone number) = state

-- The state after this entry.
abbrev pub after : Terms → State → Entry → State
after terms state entry = after_event terms state entry entry.event
