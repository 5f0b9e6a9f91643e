-- What a desk's state says of the statement that is on is what its journal's entries say.
use Rattle.std.proofs.Common.{◌≡◌, ◌≢◌, ℕ, ◌==◌, not, ◌||◌, Bool, true, false, if◌then◌else◌, List, [], ◌∷◌, ◌++◌, append_assoc, Option, Some, None, slice_index_or, All, refl, sym, ap, ◌∙◌}
use Rattle.std.specs.Prelude.{⊤}
use Rattle.std.proofs.lemmas.Bool.{ne_eqb}
use Rattle.std.proofs.lemmas.List.Folds.{list_any-append}
use Rattle.std.proofs.lemmas.List.Elements.{All-nil, All-push, All-tail, All-filter, All-weaker, filter_map-append}
use Rattle.sa_value.specs.declared.text.Text.{Text}
use Rattle.sa_plan.specs.declared.plan.Plan.{Plan}
use Rattle.sa_meaning.specs.Data.{RunData}
use Rattle.sa_ast.specs.declared.kind.AskKind.{AskKind}
use Rattle.sa_ast.specs.declared.kind.KillKind.{KillKind}
use Rattle.sa_count.specs.declared.report.Report.{Report}
use Rattle.sa_desk.specs.declared.entry.Entry.{Entry}
use Rattle.sa_desk.specs.declared.entry.Event.{Event}
use Rattle.sa_desk.specs.declared.entry.Event.TheVariants.{Begin, Queued, Refused, Served, Taken, Spent, Withdrawn, KillSent, Waited, WaitSpent, End, Gone, Close}
use Rattle.sa_desk.specs.declared.request.Request.{Request}
use Rattle.sa_desk.specs.declared.request.Reply.{Reply}
use Rattle.sa_desk.specs.State.{Terms, Statement, Execution, Phase, idle, unplanned, planned, serving, closed, State, start, queue_of}
use Rattle.sa_desk.specs.Comes.{ComesIn, Comes, ServesFirst}
use Rattle.sa_desk.specs.After.{after_event, after, begun, served, showing, without}
use Rattle.sa_desk.specs.Runs.{state_of, Runs}
use Rattle.sa_desk.specs.law.On.{IsWithin, IsOn}
use Rattle.sa_desk.specs.law.Interrupted.{is_kill, has_kill}
use Rattle.sa_desk.specs.law.Talk.{Word, asks, answers, takes, leaves, word_by, words}
use Rattle.sa_desk.specs.law.Shown.{IsAsked}
use Rattle.sa_desk.proofs.Seats.{asker_of}
use Rattle.sa_desk.proofs.laws.Along.{kept_with}
use Rattle.sa_desk.proofs.laws.Mine.{mine-gone, none-mine}
use Rattle.sa_desk.proofs.laws.Talk.{number_of, AllStandIn, AllStand, AllStand-start, AllStand-after, only_first, served_waits_not}

-- The statement is on where the entries say so, by that Begin, and is killed where a kill stands since.
pub record Tells (terms : Terms) (before : List Entry) (statement : Statement) : Type 0 where
  pub on : IsOn terms statement.number before
  pub begin : statement.begin ≡ on.begin.seq
  pub killed : statement.killed ≡ has_kill on.since

-- Its plan and its tables are those of its Begin, and each request that waits was queued since.
pub record TellsRun (terms : Terms) (before : List Entry) (statement : Statement) (plan : Plan) (tables : RunData) (queue : List Request) : Type 0 where
  pub statement_is : Tells terms before statement
  pub has_plan : statement_is.on.plan ≡ Some plan
  pub has_tables : statement_is.on.tables ≡ Some tables
  pub asked : All (λ request. IsAsked statement_is.on.since request.asker request.request request.at) queue

abbrev pub TellsIn : Terms → List Entry → Phase → Type 0
TellsIn terms before (unplanned statement) = Tells terms before statement
TellsIn terms before (planned statement execution) = TellsRun terms before statement execution.plan execution.tables execution.queue
TellsIn terms before (serving statement execution steps turn) = TellsRun terms before statement execution.plan execution.tables execution.queue
TellsIn terms before phase = ⊤

-- one more entry, which is neither a Begin nor an End
abbrev on_more : (terms : Terms) (number : ℕ) (before : List Entry) (entry : Entry) → IsWithin entry.event → IsOn terms number before → IsOn terms number (before ++ entry ∷ [])
on_more terms number before entry within on = record {
  earlier = on.earlier;
  begin = on.begin;
  since = on.since ++ entry ∷ [];
  parts = ap (λ entries. entries ++ entry ∷ []) on.parts ∙ append_assoc on.earlier (on.begin ∷ on.since) (entry ∷ []);
  own = on.own;
  text = on.text;
  version = on.version;
  plan = on.plan;
  tables = on.tables;
  begins = on.begins;
  within = All-push (λ (each : Entry). IsWithin each.event) on.since entry on.within within;
}

has_kill-push : (since : List Entry) (entry : Entry) (kill : Bool) → is_kill entry.event ≡ kill → has_kill (since ++ entry ∷ []) ≡ (has_kill since || kill)
has_kill-push since entry true is = list_any-append (λ (each : Entry). is_kill each.event) since (entry ∷ []) ∙ ap (λ last. has_kill since || (last || false)) is
has_kill-push since entry false is = list_any-append (λ (each : Entry). is_kill each.event) since (entry ∷ []) ∙ ap (λ last. has_kill since || (last || false)) is

or_false : (b : Bool) → (b || false) ≡ b
or_false true = refl
or_false false = refl

or_true : (b : Bool) → (b || true) ≡ true
or_true true = refl
or_true false = refl

abbrev tells_more : (terms : Terms) (before : List Entry) (statement : Statement) (entry : Entry) → IsWithin entry.event → is_kill entry.event ≡ false
    → Tells terms before statement → Tells terms (before ++ entry ∷ []) statement
tells_more terms before statement entry within quiet tells = record {
  on = on_more terms statement.number before entry within tells.on;
  begin = tells.begin;
  killed = tells.killed ∙ sym (has_kill-push tells.on.since entry false quiet ∙ or_false (has_kill tells.on.since));
}

abbrev tells_kill : (terms : Terms) (before : List Entry) (statement : Statement) (entry : Entry) → IsWithin entry.event → is_kill entry.event ≡ true
    → Tells terms before statement → Tells terms (before ++ entry ∷ []) (record statement { killed = true })
tells_kill terms before statement entry within kill tells = record {
  on = on_more terms statement.number before entry within tells.on;
  begin = tells.begin;
  killed = sym (has_kill-push tells.on.since entry true kill ∙ or_true (has_kill tells.on.since));
}

-- the entry says nothing of any session that waits
abbrev IsSilent : Entry → List Request → Type 0
IsSilent entry queue = All (λ request. word_by request.asker entry.actor entry.event ≡ None) queue

asked_more : (since : List Entry) (asker request at : ℕ) (entry : Entry) → word_by asker entry.actor entry.event ≡ None → IsAsked since asker request at
    → IsAsked (since ++ entry ∷ []) asker request at
asked_more since asker request at entry silent asked = record {
  first = asked.first;
  queued = asked.queued;
  later = asked.later ++ entry ∷ [];
  parts = ap (λ entries. entries ++ entry ∷ []) asked.parts ∙ append_assoc asked.first (asked.queued ∷ asked.later) (entry ∷ []);
  by = asked.by;
  kind = asked.kind;
  budget = asked.budget;
  asks = asked.asks;
  silent = filter_map-append (λ (each : Entry). word_by asker each.actor each.event) asked.later (entry ∷ [])
      ∙ ap (λ said. said ++ words asker (entry ∷ [])) asked.silent ∙ rw silent refl;
}

all_asked_more : (since : List Entry) (entry : Entry) (queue : List Request) → IsSilent entry queue
    → All (λ request. IsAsked since request.asker request.request request.at) queue
    → All (λ request. IsAsked (since ++ entry ∷ []) request.asker request.request request.at) queue
all_asked_more since entry queue silent asked =
    λ k d within. asked_more since (slice_index_or queue k d).asker (slice_index_or queue k d).request (slice_index_or queue k d).at entry (silent k d within) (asked k d within)

module _ (terms : Terms) (before : List Entry) (plan : Plan) (tables : RunData) (queue : List Request) where
  run_more : (statement : Statement) (entry : Entry) → IsWithin entry.event → is_kill entry.event ≡ false → IsSilent entry queue
      → TellsRun terms before statement plan tables queue → TellsRun terms (before ++ entry ∷ []) statement plan tables queue
  run_more statement entry within quiet silent tells = record {
    statement_is = tells_more terms before statement entry within quiet tells.statement_is;
    has_plan = tells.has_plan;
    has_tables = tells.has_tables;
    asked = all_asked_more tells.statement_is.on.since entry queue silent tells.asked;
  }

  run_kill : (statement : Statement) (entry : Entry) → IsWithin entry.event → is_kill entry.event ≡ true → IsSilent entry queue
      → TellsRun terms before statement plan tables queue → TellsRun terms (before ++ entry ∷ []) (record statement { killed = true }) plan tables queue
  run_kill statement entry within kill silent tells = record {
    statement_is = tells_kill terms before statement entry within kill tells.statement_is;
    has_plan = tells.has_plan;
    has_tables = tells.has_tables;
    asked = all_asked_more tells.statement_is.on.since entry queue silent tells.asked;
  }

  -- some of those that waited
  run_fewer : (statement : Statement) (fewer : List Request) → ((P : Request → Type 0) → All P queue → All P fewer)
      → TellsRun terms before statement plan tables queue → TellsRun terms before statement plan tables fewer
  run_fewer statement fewer still tells = record {
    statement_is = tells.statement_is;
    has_plan = tells.has_plan;
    has_tables = tells.has_tables;
    asked = still (λ request. IsAsked tells.statement_is.on.since request.asker request.request request.at) tells.asked;
  }

  -- one more request
  run_asks : (statement : Statement) (entry : Entry) (number at budget : ℕ) (kind : AskKind) → entry.event ≡ Queued number kind at budget → IsWithin entry.event → is_kill entry.event ≡ false
      → IsSilent entry queue → TellsRun terms before statement plan tables queue
      → TellsRun terms (before ++ entry ∷ []) statement plan tables (queue ++ (record { asker = entry.actor; request = number; at = at }) ∷ [])
  run_asks statement entry number at budget kind is within quiet silent tells =
      record {
        statement_is = tells_more terms before statement entry within quiet tells.statement_is;
        has_plan = tells.has_plan;
        has_tables = tells.has_tables;
        asked = All-push (λ (request : Request). IsAsked (tells.statement_is.on.since ++ entry ∷ []) request.asker request.request request.at) queue (record { asker = entry.actor; request = number; at = at })
            (all_asked_more tells.statement_is.on.since entry queue silent tells.asked)
            (record { first = tells.statement_is.on.since; queued = entry; later = []; parts = refl; by = refl; kind = kind; budget = budget; asks = is; silent = refl });
      }

-- A word of an actor is of no other session.
not_said : (asker actor : ℕ) (word : Word) → asker ≢ actor → (if actor == asker then Some word else None) ≡ None
not_said asker actor word apart = rw (ne_eqb actor asker (λ same. apart (sym same))) refl

-- The others go on, and wait while some are left.
served_tells : (terms : Terms) (before : List Entry) (statement : Statement) (execution : Execution) (first : Request) (rest : List Request) (steps turn : ℕ)
    → TellsRun terms before statement execution.plan execution.tables rest → TellsIn terms before (served terms.quantum statement execution (first ∷ rest) steps turn)
served_tells terms before statement execution first [] steps turn tells = tells
served_tells terms before statement execution first (next ∷ rest) steps turn tells = tells

module _ (terms : Terms) (before : List Entry) (doomed : Bool) (replies : List Reply) (desk actor seq turn : ℕ) where
  abbrev the_state : Phase → State
  the_state phase = record { phase = phase; doomed = doomed; replies = replies }

  abbrev the_entry : Event → Entry
  the_entry event = record { desk = desk; actor = actor; seq = seq; turn = turn; event = event }

  abbrev Goal : Phase → Event → Type 0
  Goal phase event =
      ComesIn terms (the_state phase) (the_entry event) phase event → AllStandIn (queue_of phase) replies → TellsIn terms before phase →
      TellsIn terms (before ++ the_entry event ∷ []) (after_event terms (the_state phase) (the_entry event) event).phase

  abbrev on_begin : (number : ℕ) (text : Text) (version : ℕ) (plan : Option Plan) (tables : Option RunData) → actor ≡ terms.desk
      → Tells terms (before ++ the_entry (Begin number text version plan tables) ∷ []) (record { number = number; begin = seq; turn = turn; killed = false })
  on_begin number text version plan tables own = record {
    on = record {
      earlier = before;
      begin = the_entry (Begin number text version plan tables);
      since = [];
      parts = refl;
      own = own;
      text = text;
      version = version;
      plan = plan;
      tables = tables;
      begins = refl;
      within = All-nil (λ (entry : Entry). IsWithin entry.event);
    };
    begin = refl;
    killed = refl;
  }

  on_begun : (number : ℕ) (text : Text) (version : ℕ) (plan : Option Plan) (tables : Option RunData) (the_plan : Option Plan) (the_tables : Option RunData)
      → actor ≡ terms.desk → plan ≡ the_plan → tables ≡ the_tables
      → TellsIn terms (before ++ the_entry (Begin number text version plan tables) ∷ []) (begun (record { number = number; begin = seq; turn = turn; killed = false }) the_plan the_tables)
  on_begun number text version plan tables (Some the_plan) (Some the_tables) own is_plan is_tables = record {
    statement_is = on_begin number text version plan tables own;
    has_plan = is_plan;
    has_tables = is_tables;
    asked = All-nil (λ (request : Request). IsAsked [] request.asker request.request request.at);
  }
  on_begun number text version plan tables the_plan the_tables own is_plan is_tables = on_begin number text version plan tables own

  -- The oldest request is answered, and the others are of other sessions.
  on_first : (statement : Statement) (execution : Execution) (queue : List Request) (asker number : ℕ) (report : Report)
      → ServesFirst terms statement execution queue (the_entry (Served asker number report)) asker number report
      → AllStandIn queue replies → TellsRun terms before statement execution.plan execution.tables queue
      → TellsIn terms (before ++ the_entry (Served asker number report) ∷ []) (served terms.quantum statement execution queue report.steps turn)
  on_first statement execution [] asker number report comes stand tells = absurd comes
  on_first statement execution (first ∷ rest) asker number report comes stand tells =
      let entry : Entry = the_entry (Served asker number report) in
      let others : All (λ request. request.asker ≢ first.asker) rest = only_first (stand first.asker).0 first rest replies (stand first.asker).1 in
      let silent : IsSilent entry rest = All-weaker (λ (request : Request). request.asker ≢ first.asker) (λ request. word_by request.asker actor (Served asker number report) ≡ None)
      (λ request apart. not_said request.asker asker (answers number) (λ same. apart (same ∙ sym comes.asked.0))) rest others in
      served_tells terms (before ++ entry ∷ []) statement execution first rest report.steps turn
      (run_more terms before execution.plan execution.tables rest statement entry tt refl silent
      (run_fewer terms before execution.plan execution.tables (first ∷ rest) statement rest (λ P all. All-tail P first rest all) tells))

  -- A request leaves, and the others are of other sessions.
  on_leaves : (statement : Statement) (execution : Execution) (number : ℕ) (event : Event) → IsWithin event → is_kill event ≡ false
      → ((session : ℕ) → word_by session actor event ≡ (if actor == session then Some (leaves number) else None))
      → TellsRun terms before statement execution.plan execution.tables execution.queue
      → TellsRun terms (before ++ the_entry event ∷ []) statement execution.plan execution.tables (without actor execution.queue)
  on_leaves statement execution number event within quiet says tells =
      let others : All (λ request. request.asker ≢ actor) (without actor execution.queue) =
      none-mine asker_of number_of actor (without actor execution.queue) (mine-gone asker_of number_of actor execution.queue) in
      run_more terms before execution.plan execution.tables (without actor execution.queue) statement (the_entry event) within quiet
      (All-weaker (λ (request : Request). request.asker ≢ actor) (λ request. word_by request.asker actor event ≡ None)
      (λ request apart. says request.asker ∙ not_said request.asker actor (leaves number) apart) (without actor execution.queue) others)
      (run_fewer terms before execution.plan execution.tables execution.queue statement (without actor execution.queue)
      (λ P all. All-filter (λ request. not (request.asker == actor)) P execution.queue all) tells)

  on_asks : (statement : Statement) (execution : Execution) (number : ℕ) (kind : AskKind) (at budget : ℕ) → All (λ request. request.asker ≢ actor) execution.queue
      → TellsRun terms before statement execution.plan execution.tables execution.queue
      → TellsRun terms (before ++ the_entry (Queued number kind at budget) ∷ []) statement execution.plan execution.tables (execution.queue ++ (record { asker = actor; request = number; at = at }) ∷ [])
  on_asks statement execution number kind at budget none tells =
      run_asks terms before execution.plan execution.tables execution.queue statement (the_entry (Queued number kind at budget)) number at budget kind refl tt refl
      (All-weaker (λ (request : Request). request.asker ≢ actor) (λ request. word_by request.asker actor (Queued number kind at budget) ≡ None)
      (λ request apart. not_said request.asker actor (asks number) apart) execution.queue none) tells

  -- An entry that says nothing of requests, and is no kill, changes nothing.
  on_quiet : (phase : Phase) (event : Event) → IsWithin event → is_kill event ≡ false → ((session : ℕ) → word_by session actor event ≡ None)
      → TellsIn terms before phase → TellsIn terms (before ++ the_entry event ∷ []) phase
  on_quiet idle event within quiet silent tells = tt
  on_quiet (unplanned statement) event within quiet silent tells = tells_more terms before statement (the_entry event) within quiet tells
  on_quiet (planned statement execution) event within quiet silent tells =
      run_more terms before execution.plan execution.tables execution.queue statement (the_entry event) within quiet (λ k d at. silent (slice_index_or execution.queue k d).asker) tells
  on_quiet (serving statement execution steps at) event within quiet silent tells =
      run_more terms before execution.plan execution.tables execution.queue statement (the_entry event) within quiet (λ k d at. silent (slice_index_or execution.queue k d).asker) tells
  on_quiet closed event within quiet silent tells = tt

  on_shown : (phase : Phase) (steps : ℕ) → TellsIn terms before phase → TellsIn terms before (showing phase steps)
  on_shown idle steps tells = tells
  on_shown (unplanned statement) steps tells = tells
  on_shown (planned statement execution) steps tells = tells
  on_shown (serving statement execution shown at) steps tells = tells
  on_shown closed steps tells = tells

  on_kill : (phase : Phase) (number : ℕ) (kind : KillKind) → Goal phase (KillSent number kind)
  on_kill idle number kind comes stand tells = tt
  on_kill (unplanned statement) number kind comes stand tells = tells_kill terms before statement (the_entry (KillSent number kind)) tt refl tells
  on_kill (planned statement execution) number kind comes stand tells =
      run_kill terms before execution.plan execution.tables execution.queue statement (the_entry (KillSent number kind)) tt refl (λ k d within. refl) tells
  on_kill (serving statement execution steps at) number kind comes stand tells = absurd comes
  on_kill closed number kind comes stand tells = absurd comes

  on_taken : (phase : Phase) (number : ℕ) → Goal phase (Taken number)
  on_taken idle number comes stand tells = tt
  on_taken (unplanned statement) number comes stand tells = tells_more terms before statement (the_entry (Taken number)) tt refl tells
  on_taken (planned statement execution) number comes stand tells =
      let others : All (λ request. request.asker ≢ actor) execution.queue = served_waits_not (stand actor).0 actor number execution.queue replies comes (stand actor).1 in
      run_more terms before execution.plan execution.tables execution.queue statement (the_entry (Taken number)) tt refl
      (All-weaker (λ (request : Request). request.asker ≢ actor) (λ request. word_by request.asker actor (Taken number) ≡ None)
      (λ request apart. not_said request.asker actor (takes number) apart) execution.queue others) tells
  on_taken (serving statement execution steps at) number comes stand tells = absurd comes
  on_taken closed number comes stand tells = tt

  on_served : (phase : Phase) (asker number : ℕ) (report : Report) → Goal phase (Served asker number report)
  on_served (planned statement execution) asker number report comes stand tells = on_first statement execution execution.queue asker number report comes stand tells
  on_served (serving statement execution steps at) asker number report comes stand tells = on_first statement execution execution.queue asker number report comes.0 stand tells
  on_served phase asker number report comes stand tells = absurd comes

  tells_after : (phase : Phase) (event : Event) → Goal phase event
  tells_after idle (Begin number text version plan tables) comes stand tells =
      on_begun number text version plan tables plan tables comes.0 refl refl
  tells_after phase (Begin number text version plan tables) comes stand tells = absurd comes
  tells_after (planned statement execution) (Queued number kind at budget) comes stand tells = on_asks statement execution number kind at budget comes.0.0 tells
  tells_after phase (Queued number kind at budget) comes stand tells = absurd comes
  tells_after phase (Refused number why) comes stand tells = on_quiet phase (Refused number why) tt refl (λ session. refl) tells
  tells_after phase (Served asker number report) comes stand tells = on_served phase asker number report comes stand tells
  tells_after phase (Taken number) comes stand tells = on_taken phase number comes stand tells
  tells_after (planned statement execution) (Spent number turns) comes stand tells =
      on_leaves statement execution number (Spent number turns) tt refl (λ session. refl) tells
  tells_after phase (Spent number turns) comes stand tells = absurd comes
  tells_after (planned statement execution) (Withdrawn number) comes stand tells =
      on_leaves statement execution number (Withdrawn number) tt refl (λ session. refl) tells
  tells_after phase (Withdrawn number) comes stand tells = absurd comes
  tells_after phase (KillSent number kind) comes stand tells = on_kill phase number kind comes stand tells
  tells_after phase (Waited number steps) comes stand tells =
      on_quiet (showing phase steps) (Waited number steps) tt refl (λ session. refl) (on_shown phase steps tells)
  tells_after phase (WaitSpent number steps turns) comes stand tells =
      on_quiet (showing phase steps) (WaitSpent number steps turns) tt refl (λ session. refl) (on_shown phase steps tells)
  tells_after phase (End number outcome steps) comes stand tells = tt
  tells_after phase (Gone number) comes stand tells = on_quiet phase (Gone number) tt refl (λ session. refl) tells
  tells_after phase Close comes stand tells = tt

-- What the state says of the statement that is on stays what the entries say.
pub TellsIn-after : (terms : Terms) (before : List Entry) (state : State) (entry : Entry) → Comes terms state entry → AllStand state → TellsIn terms before state.phase
    → TellsIn terms (before ++ entry ∷ []) (after terms state entry).phase
TellsIn-after terms before state entry comes stand tells =
    tells_after terms before state.doomed state.replies entry.desk entry.actor entry.seq entry.turn state.phase entry.event comes stand tells

pub Tells-run : (terms : Terms) (before : List Entry) → Runs terms start before → TellsIn terms before (state_of terms before).phase
Tells-run terms before run =
    (kept_with terms (λ entries state. TellsIn terms entries state.phase × AllStand state)
    (λ entries state entry comes both. (TellsIn-after terms entries state entry comes both.1 both.0, AllStand-after terms state entry comes both.1))
    [] start before run (tt, AllStand-start)).0
