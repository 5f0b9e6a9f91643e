-- What an entry does to the requests that wait and to the answers that are not yet taken.
use Rattle.std.proofs.Common.{◌≡◌, ℕ, ◌+◌, List, [], ◌∷◌, ◌++◌, Some, refl, sym, All, ◌≢◌, Bool, false, Option, ap, ◌==◌, if◌then◌else◌}
use Rattle.sa_value.specs.declared.text.Text.{Text}
use Rattle.sa_count.specs.declared.report.Report.{Report}
use Rattle.sa_plan.specs.declared.plan.Plan.{Plan}
use Rattle.sa_meaning.specs.Data.{RunData}
use Rattle.sa_ast.specs.declared.kind.AskKind.{AskKind}
use Rattle.sa_ast.specs.declared.kind.KillKind.{KillKind}
use Rattle.sa_desk.specs.declared.entry.Entry.{Entry}
use Rattle.sa_desk.specs.declared.entry.Event.{Event}
use Rattle.sa_desk.specs.declared.entry.Event.TheVariants.{Begin, Queued, Refused, Served, Taken, Spent, Withdrawn, KillSent, Waited, WaitSpent, End, Gone, Close}
use Rattle.sa_desk.specs.declared.entry.RefusedWhy.{RefusedWhy}
use Rattle.sa_desk.specs.declared.outcome.Outcome.{Outcome}
use Rattle.sa_desk.specs.declared.request.Request.{Request}
use Rattle.sa_desk.specs.declared.request.Reply.{Reply}
use Rattle.sa_desk.specs.State.{Terms, Statement, Execution, Phase, idle, unplanned, planned, serving, State, queue_of}
use Rattle.sa_desk.specs.Comes.{ComesIn, Comes, ServesFirst}
use Rattle.sa_desk.specs.After.{after_event, after, begun, served, still_serving, without, untaken, first_owed}
use Rattle.sa_desk.specs.Charge.{cost}

-- The actor has no request here, neither waiting nor served.
abbrev pub HasNoneOf : ℕ → List Request → List Reply → Type 0
HasNoneOf actor queue replies = All (λ request. request.asker ≢ actor) queue × All (λ reply. reply.asker ≢ actor) replies

-- an entry, and the requests and answers before it and after it
module _ (queue : List Request) (replies : List Reply) (entry : Entry) (next : List Request) (left : List Reply) where
  -- It changes neither.
  pub record Keeps : Type 0 where
    pub same_queue : next ≡ queue
    pub same_replies : left ≡ replies
    pub costs : cost entry.event ≡ 1

  -- The actor has no request here, and its new one waits last.
  pub record Asks : Type 0 where
    pub none : HasNoneOf entry.actor queue replies
    pub request : Request
    pub asked : request.asker ≡ entry.actor
    pub longer : next ≡ queue ++ request ∷ []
    pub same_replies : left ≡ replies
    pub costs : cost entry.event ≡ 2

  -- The oldest request is answered.
  pub record Answers : Type 0 where
    pub first : Request
    pub oldest : queue ≡ first ∷ next
    pub reply : Reply
    pub to : (reply.asker ≡ first.asker) × (reply.request ≡ first.request)
    pub more : left ≡ replies ++ reply ∷ []
    pub costs : cost entry.event ≡ 0

  -- The actor's answer is taken.
  pub record Takes : Type 0 where
    pub same_queue : next ≡ queue
    pub fewer : left ≡ untaken entry.actor replies
    pub costs : cost entry.event ≡ 1

  -- The actor's request leaves.
  pub record Drops : Type 0 where
    pub shorter : next ≡ without entry.actor queue
    pub same_replies : left ≡ replies
    pub costs : cost entry.event ≡ 1

  pub data Change : Type 0 where
    keeps : Keeps → Change
    asks : Asks → Change
    answers : Answers → Change
    takes : Takes → Change
    drops : Drops → Change

-- The entry's part in the machine, by what it does to the queue and to the answers.
abbrev pub Changes : State → Entry → State → Type 0
Changes before entry later = Change (queue_of before.phase) before.replies entry (queue_of later.phase) later.replies

module _ (terms : Terms) (doomed : Bool) (replies : List Reply) (desk actor seq turn : ℕ) where
  abbrev the_state : Phase → State
  the_state phase = record { phase = phase; doomed = doomed; replies = replies }

  abbrev the_entry : Event → Entry
  the_entry event = record { desk = desk; actor = actor; seq = seq; turn = turn; event = event }

  abbrev Goal : Phase → Event → Type 0
  Goal phase event =
      ComesIn terms (the_state phase) (the_entry event) phase event →
      Changes (the_state phase) (the_entry event) (after_event terms (the_state phase) (the_entry event) event)

  on_asks : (phase : Phase) (number : ℕ) (kind : AskKind) (at budget : ℕ) → Goal phase (Queued number kind at budget)
  on_asks (planned statement execution) number kind at budget comes = asks (record {
    none = comes.0;
    request = record { asker = actor; request = number; at = at };
    asked = refl;
    longer = refl;
    same_replies = refl;
    costs = refl;
  })
  on_asks phase number kind at budget comes = absurd comes

  on_takes : (phase : Phase) (number : ℕ) → Goal phase (Taken number)
  on_takes (serving statement execution steps turn) number comes = absurd comes
  on_takes phase number comes = takes (record { same_queue = refl; fewer = refl; costs = refl })

  on_spent : (phase : Phase) (number turns : ℕ) → Goal phase (Spent number turns)
  on_spent (planned statement execution) number turns comes = drops (record { shorter = refl; same_replies = refl; costs = refl })
  on_spent phase number turns comes = absurd comes

  on_withdrawn : (phase : Phase) (number : ℕ) → Goal phase (Withdrawn number)
  on_withdrawn (planned statement execution) number comes = drops (record { shorter = refl; same_replies = refl; costs = refl })
  on_withdrawn phase number comes = absurd comes

  on_kill : (phase : Phase) (number : ℕ) (kind : KillKind) → Goal phase (KillSent number kind)
  on_kill (serving statement execution steps turn) number kind comes = absurd comes
  on_kill phase number kind comes = keeps (record { same_queue = refl; same_replies = refl; costs = refl })

  on_waited : (phase : Phase) (number steps : ℕ) → Goal phase (Waited number steps)
  on_waited (serving statement execution shown turn) number steps comes = absurd comes
  on_waited phase number steps comes = keeps (record { same_queue = refl; same_replies = refl; costs = refl })

  on_wait_spent : (phase : Phase) (number steps turns : ℕ) → Goal phase (WaitSpent number steps turns)
  on_wait_spent (serving statement execution shown turn) number steps turns comes = absurd comes
  on_wait_spent phase number steps turns comes = keeps (record { same_queue = refl; same_replies = refl; costs = refl })

  on_refused : (phase : Phase) (number : ℕ) (why : RefusedWhy) → Goal phase (Refused number why)
  on_refused phase number why comes = keeps (record { same_queue = refl; same_replies = refl; costs = refl })

  on_gone : (phase : Phase) (number : ℕ) → Goal phase (Gone number)
  on_gone phase number comes = keeps (record { same_queue = refl; same_replies = refl; costs = refl })

  on_close : (phase : Phase) → Goal phase Close
  on_close idle comes = keeps (record { same_queue = refl; same_replies = refl; costs = refl })
  on_close phase comes = absurd comes

  on_end : (phase : Phase) (number : ℕ) (outcome : Outcome) (steps : ℕ) → Goal phase (End number outcome steps)
  on_end (unplanned statement) number outcome steps comes = keeps (record { same_queue = refl; same_replies = refl; costs = refl })
  on_end (planned statement execution) number outcome steps comes =
      keeps (record { same_queue = sym comes.1.served; same_replies = refl; costs = refl })
  on_end phase number outcome steps comes = absurd comes

  begun_empty : (statement : Statement) (plan : Option Plan) (tables : Option RunData) → queue_of (begun statement plan tables) ≡ []
  begun_empty statement (Some plan) (Some tables) = refl
  begun_empty statement plan tables = refl

  on_begin : (phase : Phase) (number : ℕ) (text : Text) (version : ℕ) (plan : Option Plan) (tables : Option RunData) → Goal phase (Begin number text version plan tables)
  on_begin idle number text version plan tables comes = keeps (record {
    same_queue = begun_empty (record { number = number; begin = seq; turn = turn; killed = false }) plan tables;
    same_replies = refl;
    costs = refl;
  })
  on_begin phase number text version plan tables comes = absurd comes

  -- Whoever else waits, waits on.
  serving_on : (statement : Statement) (execution : Execution) (rest : List Request) (steps at : ℕ) → execution.queue ≡ rest → queue_of (still_serving statement execution rest steps at) ≡ rest
  serving_on statement execution [] steps at same = same
  serving_on statement execution (next ∷ rest) steps at same = same

  on_first : (statement : Statement) (execution : Execution) (queue : List Request) (asker number : ℕ) (report : Report) (begin : ℕ) → queue ≡ execution.queue
      → ServesFirst terms statement execution queue (the_entry (Served asker number report)) asker number report
      → Change queue replies (the_entry (Served asker number report)) (queue_of (served terms.quantum statement execution queue report.steps turn)) (replies ++ (record { asker = asker; request = number; report = report; begin = begin }) ∷ [])
  on_first statement execution [] asker number report begin same comes = absurd comes
  on_first statement execution (first ∷ rest) asker number report begin same comes = answers (record {
    first = first;
    oldest = ap (λ (waiting : List Request). first ∷ waiting) (sym (serving_on statement
        (record execution { shown = report.steps; queue = rest; owed = if report.steps == first.at + terms.quantum then execution.owed else first_owed execution.owed (report.steps, turn) })
        rest report.steps turn refl));
    reply = record { asker = asker; request = number; report = report; begin = begin };
    to = (sym comes.asked.0, sym comes.asked.1);
    more = refl;
    costs = refl;
  })

  on_served : (phase : Phase) (asker number : ℕ) (report : Report) → Goal phase (Served asker number report)
  on_served (planned statement execution) asker number report comes =
      on_first statement execution execution.queue asker number report statement.begin refl comes
  on_served (serving statement execution steps at) asker number report comes =
      on_first statement execution execution.queue asker number report statement.begin refl comes.0
  on_served phase asker number report comes = absurd comes

  change_of : (phase : Phase) (event : Event) → Goal phase event
  change_of phase (Begin number text version plan tables) = on_begin phase number text version plan tables
  change_of phase (Queued number kind at budget) = on_asks phase number kind at budget
  change_of phase (Refused number why) = on_refused phase number why
  change_of phase (Served asker number report) = on_served phase asker number report
  change_of phase (Taken number) = on_takes phase number
  change_of phase (Spent number turns) = on_spent phase number turns
  change_of phase (Withdrawn number) = on_withdrawn phase number
  change_of phase (KillSent number kind) = on_kill phase number kind
  change_of phase (Waited number steps) = on_waited phase number steps
  change_of phase (WaitSpent number steps turns) = on_wait_spent phase number steps turns
  change_of phase (End number outcome steps) = on_end phase number outcome steps
  change_of phase (Gone number) = on_gone phase number
  change_of phase Close = on_close phase

-- Each entry that may come makes one of the five changes.
pub changes : (terms : Terms) (state : State) (entry : Entry) → Comes terms state entry → Changes state entry (after terms state entry)
changes terms state entry comes =
    change_of terms state.doomed state.replies entry.desk entry.actor entry.seq entry.turn state.phase entry.event comes
