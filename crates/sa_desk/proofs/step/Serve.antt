-- What the requests that wait leave when all of them are served.
use Rattle.std.proofs.Common.{◌≡◌, ℕ, ◌+◌, ◌/◌, ◌≤◌, ◌==◌, ◌⊎◌, inl, inr, Bool, true, false, List, [], ◌∷◌, ◌++◌, length, Option, Some, None, if◌then◌else◌, All, refl, sym, subst, ap, ◌∙◌, append_assoc, append-nil, arith}
use Rattle.std.proofs.lemmas.Bool.{eq-eqb}
use Rattle.std.proofs.lemmas.List.Elements.{All-head, All-tail, All-nil, All-cons}
use Rattle.sa_count.specs.declared.report.Report.{Report}
use Rattle.sa_meaning.specs.Counts.{counts}
use Rattle.sa_meaning.specs.Progress.{Progress}
use Rattle.sa_desk.specs.declared.entry.Entry.{Entry}
use Rattle.sa_desk.specs.declared.entry.Event.TheVariants.{Served}
use Rattle.sa_desk.specs.declared.request.Request.{Request}
use Rattle.sa_desk.specs.declared.request.Reply.{Reply}
use Rattle.sa_desk.specs.declared.stamp.Stamp.{Stamp}
use Rattle.sa_desk.specs.State.{Terms, Statement, Execution, Phase, idle, unplanned, planned, serving, closed, State, queue_of}
use Rattle.sa_desk.specs.Comes.{Serves, Comes}
use Rattle.sa_desk.specs.After.{after, still_serving, first_owed}
use Rattle.sa_desk.specs.Runs.{state_after, Runs}
use Rattle.sa_desk.specs.Contents.{Contents, state, phase, IsSound, IsOwner, entry_by, later}
use Rattle.sa_desk.specs.Serving.{report_of, served_with, served_entries, IsRunOf, begin_turn}
use Rattle.sa_desk.specs.call.End.{IsTimely}
use Rattle.sa_desk.specs.inner.Parts.{answers_with, served_from}
use Rattle.sa_desk.proofs.Queue.{AllAt, queued_at_published}
use Rattle.sa_desk.proofs.Grown.{IsBy}

-- From the one state the entries may come, and they leave the other.
pub record Leads (terms : Terms) (before : State) (entries : List Entry) (later : State) : Type 0 where
  pub runs : Runs terms before entries
  pub leaves : state_after terms before entries ≡ later

-- the execution before the requests are served, and what they are served with: a report, in a turn
module _ (quantum : ℕ) (execution : Execution) (report : Report) (at turn : ℕ) where
  -- Less than a whole quantum fixes the End.
  abbrev pub owing : Option (ℕ × ℕ)
  owing = if report.steps == at + quantum then execution.owed else first_owed execution.owed (report.steps, turn)

  -- the execution once the first request is served, while these wait
  abbrev pub once_served : List Request → Execution
  once_served queue = record execution { shown = report.steps; queue = queue; owed = owing }

  -- the execution once all are served; where nobody waited it is as it was
  abbrev pub all_served : List Request → Execution
  all_served [] = record execution { queue = [] }
  all_served (first ∷ rest) = once_served []

  pub all_served-queue : (queue : List Request) → (all_served queue).queue ≡ []
  all_served-queue [] = refl
  all_served-queue (first ∷ rest) = refl

  pub all_served-plan : (queue : List Request) → (all_served queue).plan ≡ execution.plan
  all_served-plan [] = refl
  all_served-plan (first ∷ rest) = refl

  pub all_served-tables : (queue : List Request) → (all_served queue).tables ≡ execution.tables
  all_served-tables [] = refl
  all_served-tables (first ∷ rest) = refl

  -- The number that is shown rises to that of the report at most.
  pub all_served-rising : (queue : List Request) → execution.shown ≤ report.steps → (all_served queue).shown ≤ report.steps
  all_served-rising [] rising = rising
  all_served-rising (first ∷ rest) rising = omega arith

  -- A whole quantum fixes nothing.
  pub all_served-whole : (queue : List Request) → report.steps ≡ at + quantum → (all_served queue).owed ≡ execution.owed
  all_served-whole [] whole = refl
  all_served-whole (first ∷ rest) whole = rw (eq-eqb report.steps (at + quantum) whole) refl

  if_fixed : (whole : Bool) (owed fixed : Option (ℕ × ℕ)) → owed ≡ None → ((if whole then owed else fixed) ≡ None) ⊎ ((if whole then owed else fixed) ≡ fixed)
  if_fixed true owed fixed free = inl free
  if_fixed false owed fixed free = inr refl

  -- What is fixed is fixed to the report's number and to this turn.
  pub all_served-fixed : (queue : List Request) → execution.owed ≡ None → ((all_served queue).owed ≡ None) ⊎ ((all_served queue).owed ≡ Some (report.steps, turn))
  all_served-fixed [] free = inl free
  all_served-fixed (first ∷ rest) free = rw free (if_fixed (report.steps == at + quantum) None (Some (report.steps, turn)) refl)

module _ (desk : Contents) (statement : Statement) (execution : Execution) (report : Report) (at actor turn : ℕ) (doomed : Bool) where
  abbrev owed : Option (ℕ × ℕ)
  owed = owing desk.terms.quantum execution report at turn

  abbrev once : List Request → Execution
  once queue = once_served desk.terms.quantum execution report at turn queue

  -- The desk's own session may serve whoever was queued at this number, in this turn and with this report.
  pub record MayServe : Type 0 where
    pub own : actor ≡ desk.terms.desk
    pub turn_is : turn ≡ statement.turn + at / desk.terms.quantum + 1
    pub counted : report ≡ counts statement.number execution.plan execution.tables report.steps
    pub least : at ≤ report.steps
    pub most : report.steps ≤ at + desk.terms.quantum

  abbrev left : Phase → List Reply → State
  left phase replies = record { phase = phase; doomed = doomed; replies = replies }

  abbrev stamped : ℕ → Stamp
  stamped seq = record { actor = actor; seq = seq; turn = turn }

  -- The first of them is served.
  serves : (waits : Execution) (first : Request) (seq : ℕ) → MayServe → first.at ≡ at → waits.plan ≡ execution.plan → waits.tables ≡ execution.tables
      → Serves desk.terms statement waits first (entry_by desk (stamped seq) (Served first.asker first.request report)) first.asker first.request report
  serves waits first seq may first_at plan tables = record {
    own = may.own;
    asked = (refl, refl);
    turn = rw first_at may.turn_is;
    counted = rw (plan, tables) may.counted;
    least = rw first_at may.least;
    most = rw first_at may.most;
  }

  -- What the first has fixed, the next fix again.
  owing-first : (first : ℕ) → first ≡ at → (if report.steps == first + desk.terms.quantum then execution.owed else first_owed execution.owed (report.steps, turn)) ≡ owed
  owing-first first same = ap (λ (number : ℕ). if report.steps == number + desk.terms.quantum then execution.owed else first_owed execution.owed (report.steps, turn)) same

  twice : (whole : Bool) (fixed : Option (ℕ × ℕ)) (last : ℕ × ℕ) → (if whole then (if whole then fixed else first_owed fixed last) else first_owed (if whole then fixed else first_owed fixed last) last) ≡ (if whole then fixed else first_owed fixed last)
  twice true fixed last = refl
  twice false None last = refl
  twice false (Some first) last = refl

  owing-next : (first : ℕ) → first ≡ at → (if report.steps == first + desk.terms.quantum then owed else first_owed owed (report.steps, turn)) ≡ owed
  owing-next first same =
      ap (λ (number : ℕ). if report.steps == number + desk.terms.quantum then owed else first_owed owed (report.steps, turn)) same
      ∙ twice (report.steps == at + desk.terms.quantum) execution.owed (report.steps, turn)

  abbrev reply_to : Request → Reply
  reply_to first = record { asker = first.asker; request = first.request; report = report; begin = statement.begin }

  -- Where these wait, they are served, the statement runs on, and each has an answer.
  abbrev ServesRest : List Request → ℕ → List Reply → Type 0
  ServesRest queue seq replies =
      Leads desk.terms (left (still_serving statement (once queue) queue report.steps turn) replies) (served_with desk report (stamped seq) queue)
      (left (planned statement (once [])) (replies ++ answers_with report statement.begin queue))

  -- So too from a state in which the first may be served, and that leaves the rest as they are.
  first-served : (before : State) (first : Request) (rest : List Request) (seq : ℕ) (replies : List Reply) (fixed : Option (ℕ × ℕ)) → fixed ≡ owed
      → Comes desk.terms before (entry_by desk (stamped seq) (Served first.asker first.request report))
      → after desk.terms before (entry_by desk (stamped seq) (Served first.asker first.request report))
      ≡ left (still_serving statement (record execution { shown = report.steps; queue = rest; owed = fixed }) rest report.steps turn) (replies ++ reply_to first ∷ [])
      → ServesRest rest (seq + 1) (replies ++ reply_to first ∷ [])
      → Leads desk.terms before (served_with desk report (stamped seq) (first ∷ rest)) (left (planned statement (once [])) (replies ++ answers_with report statement.begin (first ∷ rest)))
  first-served before first rest seq replies fixed same comes leaves more =
      let next : after desk.terms before (entry_by desk (stamped seq) (Served first.asker first.request report)) ≡ left (still_serving statement (once rest) rest report.steps turn) (replies ++ reply_to first ∷ []) =
      leaves ∙ ap (λ (it : Option (ℕ × ℕ)). left (still_serving statement (record execution { shown = report.steps; queue = rest; owed = it }) rest report.steps turn) (replies ++ reply_to first ∷ [])) same in
      record {
        runs = (comes, subst (λ (now : State). Runs desk.terms now (served_with desk report (stamped (seq + 1)) rest)) (sym next) more.runs);
        leaves = ap (λ (now : State). state_after desk.terms now (served_with desk report (stamped (seq + 1)) rest)) next ∙ more.leaves
            ∙ ap (left (planned statement (once []))) (append_assoc replies (reply_to first ∷ []) (answers_with report statement.begin rest));
      }

  served-rest : (queue : List Request) (seq : ℕ) (replies : List Reply) → MayServe → AllAt at queue → ServesRest queue seq replies
  served-rest [] seq replies may all = record { runs = tt; leaves = ap (left (planned statement (once []))) (sym (append-nil replies)) }
  served-rest (first ∷ rest) seq replies may all =
      let first_at : first.at ≡ at = All-head (λ (request : Request). request.at ≡ at) first rest all in
      first-served (left (serving statement (once (first ∷ rest)) report.steps turn) replies) first rest seq replies _ (owing-next first.at first_at)
      (serves (once (first ∷ rest)) first seq may first_at refl refl, refl, refl) refl
      (served-rest rest (seq + 1) (replies ++ reply_to first ∷ []) may (All-tail (λ (request : Request). request.at ≡ at) first rest all))

  -- The whole queue is served.
  pub served-all : (queue : List Request) (seq : ℕ) (replies : List Reply) → MayServe → AllAt at queue
      → Leads desk.terms (left (planned statement (record execution { queue = queue })) replies) (served_with desk report (stamped seq) queue)
      (left (planned statement (all_served desk.terms.quantum execution report at turn queue)) (replies ++ answers_with report statement.begin queue))
  served-all [] seq replies may all = record { runs = tt; leaves = ap (left (planned statement (record execution { queue = [] }))) (sym (append-nil replies)) }
  served-all (first ∷ rest) seq replies may all =
      let first_at : first.at ≡ at = All-head (λ (request : Request). request.at ≡ at) first rest all in
      first-served (left (planned statement (record execution { queue = first ∷ rest })) replies) first rest seq replies _ (owing-first first.at first_at)
      (serves (record execution { queue = first ∷ rest }) first seq may first_at refl refl) refl
      (served-rest rest (seq + 1) (replies ++ reply_to first ∷ []) may (All-tail (λ (request : Request). request.at ≡ at) first rest all))

-- A run serves whoever waits at its statement.
pub run-leaves : (desk : Contents) (stamp : Stamp) (run : Progress) (statement : Statement) (execution : Execution) → phase desk ≡ planned statement execution
    → IsSound desk → IsOwner desk stamp → IsRunOf (planned statement execution) run → IsTimely desk stamp run
    → let later : State = record {
      phase = planned statement (all_served desk.terms.quantum execution (report_of run) desk.published stamp.turn execution.queue);
      doomed = (state desk).doomed;
      replies = (state desk).replies ++ answers_with (report_of run) statement.begin execution.queue;
    } in
    Leads desk.terms (state desk) (served_entries desk stamp run) later
run-leaves desk stamp run statement execution on sound own is timely =
    let later : State = record {
      phase = planned statement (all_served desk.terms.quantum execution (report_of run) desk.published stamp.turn execution.queue);
      doomed = (state desk).doomed;
      replies = (state desk).replies ++ answers_with (report_of run) statement.begin execution.queue;
    } in
    let may : MayServe desk statement execution (report_of run) desk.published stamp.actor stamp.turn (state desk).doomed = record {
      own = own;
      turn_is = subst (λ (now : Phase). stamp.turn ≡ begin_turn now + desk.published / desk.terms.quantum + 1) on timely.turn;
      counted = rw (is.0, is.1, is.2) refl;
      least = timely.least;
      most = timely.most;
    } in
    subst (λ (now : Phase). Leads desk.terms (record { phase = now; doomed = (state desk).doomed; replies = (state desk).replies }) (served_with desk (report_of run) stamp (queue_of now)) later) (sym on)
    (served-all desk statement execution (report_of run) desk.published stamp.actor stamp.turn (state desk).doomed execution.queue stamp.seq (state desk).replies may (queued_at_published desk statement execution sound on))

-- The entries are the caller's, one for each request.
pub served-by : (desk : Contents) (report : Report) (by stamp : Stamp) (queue : List Request) → stamp.actor ≡ by.actor → All (IsBy desk by) (served_with desk report stamp queue)
served-by desk report by stamp [] same = All-nil (IsBy desk by)
served-by desk report by stamp (first ∷ rest) same =
    let here : IsBy desk by (entry_by desk stamp (Served first.asker first.request report)) = record { desk_is = refl; actor_is = same } in
    All-cons (IsBy desk by) (entry_by desk stamp (Served first.asker first.request report)) (served_with desk report (later 1 stamp) rest) here (served-by desk report by (later 1 stamp) rest same)

pub length-served : (desk : Contents) (report : Report) (stamp : Stamp) (queue : List Request) → length (served_with desk report stamp queue) ≡ length queue
length-served desk report stamp [] = refl
length-served desk report stamp (first ∷ rest) = let more = length-served desk report (later 1 stamp) rest in omega arith

-- They are those that the loop puts into the journal.
served_from-with : (desk : Contents) (report : Report) (stamp : Stamp) (queue : List Request) → served_from desk.terms.desk stamp report queue ≡ served_with desk report stamp queue
served_from-with desk report stamp [] = refl
served_from-with desk report stamp (first ∷ rest) =
    ap (λ (more : List Entry). entry_by desk stamp (Served first.asker first.request report) ∷ more) (served_from-with desk report (later 1 stamp) rest)

pub served-same : (desk : Contents) (report : Report) (stamp : Stamp) (queue : List Request) → queue ≡ queue_of (phase desk)
    → served_from desk.terms.desk stamp report queue ≡ served_with desk report stamp (queue_of (phase desk))
served-same desk report stamp queue same = served_from-with desk report stamp queue ∙ ap (served_with desk report stamp) same

-- A run is of a statement with a plan.
pub on_planned : (now : Phase) (run : Progress) → IsRunOf now run → (statement : Statement) × (execution : Execution) × (now ≡ planned statement execution) × IsRunOf (planned statement execution) run
on_planned idle run is = absurd is
on_planned (unplanned statement) run is = absurd is
on_planned (planned statement execution) run is = (statement, execution, refl, is)
on_planned (serving statement execution steps turn) run is = absurd is
on_planned closed run is = absurd is
