-- A session's requests at a desk come one after another.
use Rattle.std.proofs.Common.{◌≡◌, ◌≢◌, ℕ, ◌==◌, Bool, false, if◌then◌else◌, List, [], ◌∷◌, ◌++◌, append-nil, Option, Some, None, All, inl, inr, refl, sym, subst, ap, ◌∙◌}
use Rattle.std.proofs.lemmas.Bool.Decides.{eqb_tells}
use Rattle.std.proofs.lemmas.List.Elements.{All-cons, All-nil}
use Rattle.sa_plan.specs.declared.plan.Plan.{Plan}
use Rattle.sa_meaning.specs.Data.{RunData}
use Rattle.sa_ast.specs.declared.kind.KillKind.{KillKind}
use Rattle.sa_count.specs.declared.report.Report.{Report}
use Rattle.sa_desk.specs.declared.entry.Entry.{Entry}
use Rattle.sa_desk.specs.declared.entry.Event.{Event}
use Rattle.sa_desk.specs.declared.entry.Event.TheVariants.{Begin, Queued, Refused, Served, Taken, Spent, Withdrawn, KillSent, Waited, WaitSpent, End, Gone, Close}
use Rattle.sa_desk.specs.declared.request.Request.{Request}
use Rattle.sa_desk.specs.declared.request.Reply.{Reply}
use Rattle.sa_desk.specs.State.{Terms, Statement, Execution, Phase, idle, unplanned, planned, serving, State, start, queue_of}
use Rattle.sa_desk.specs.Comes.{ComesIn, Comes, IsQueued, IsServed, ServesFirst}
use Rattle.sa_desk.specs.After.{after_event, after, begun, served, without, untaken}
use Rattle.sa_desk.specs.Runs.{Runs, IsDeskRun}
use Rattle.sa_desk.specs.law.Talk.{Word, asks, answers, takes, leaves, word_by, words, Standing, nothing_open, waiting, answered, IsTalk}
use Rattle.sa_desk.proofs.Changes.{HasNoneOf}
use Rattle.sa_desk.proofs.Seats.{asker_of, replied_to}
use Rattle.sa_desk.proofs.laws.Mine.{mine, mine-own, mine-other, mine-append, mine-gone, mine-kept, mine-none, none-mine, mine-has}

-- the number of a request, and of the one that was answered
abbrev pub number_of : Request → ℕ
number_of request = request.request

abbrev pub number_in : Reply → ℕ
number_in reply = reply.request

-- the numbers of the session's requests that wait, and of those that were answered
abbrev pub asked_by : ℕ → List Request → List ℕ
asked_by session queue = mine asker_of number_of session queue

abbrev pub answered_to : ℕ → List Reply → List ℕ
answered_to session replies = mine replied_to number_in session replies

-- those of a session that stands so
abbrev pub waits_of : Standing → List ℕ
waits_of nothing_open = []
waits_of (waiting request) = request ∷ []
waits_of (answered request) = []

abbrev pub answers_of : Standing → List ℕ
answers_of nothing_open = []
answers_of (waiting request) = []
answers_of (answered request) = request ∷ []

-- The session stands so with the desk.
pub record Stands (session : ℕ) (standing : Standing) (queue : List Request) (replies : List Reply) : Type 0 where
  pub waits : asked_by session queue ≡ waits_of standing
  pub replied : answered_to session replies ≡ answers_of standing

-- From one standing a word leads to another one.
abbrev pub Leads : Standing → Word → Standing → Type 0
Leads standing word next = (rest : List Word) → IsTalk next rest → IsTalk standing (word ∷ rest)

-- the standing after a word
abbrev pub led_to : Word → Standing
led_to (asks request) = waiting request
led_to (answers request) = answered request
led_to (takes request) = nothing_open
led_to (leaves request) = nothing_open

-- The session's standing after an entry that says this, or nothing.
abbrev pub Led : ℕ → Standing → Option Word → List Request → List Reply → Type 0
Led session standing None queue replies = Stands session standing queue replies
Led session standing (Some word) queue replies = Leads standing word (led_to word) × Stands session (led_to word) queue replies

-- An entry that says the word where its actor is the session, and else nothing.
Led-if : (session actor : ℕ) (standing : Standing) (word : Word) (queue : List Request) (replies : List Reply)
    → (actor ≡ session → Led session standing (Some word) queue replies)
    → (actor ≢ session → Stands session standing queue replies)
    → Led session standing (if actor == session then Some word else None) queue replies
Led-if session actor standing word queue replies own other =
    elim (eqb_tells actor session) [
      | inl same ↦ subst (λ (test : Bool). Led session standing (if test then Some word else None) queue replies) (sym same.0) (own same.1)
      | inr apart ↦ subst (λ (test : Bool). Led session standing (if test then Some word else None) queue replies) (sym apart.0) (other apart.1)
    ]

some_none : (n : ℕ) (ns : List ℕ) → n ∷ ns ≡ [] → ⊥
some_none n ns same = cc

same_first : (n m : ℕ) (ns ms : List ℕ) → n ∷ ns ≡ m ∷ ms → n ≡ m
same_first n m ns ms same = cc

same_rest : (n m : ℕ) (ns ms : List ℕ) → n ∷ ns ≡ m ∷ ms → ns ≡ ms
same_rest n m ns ms same = cc

-- a request of a session that has none
asks_own : (session : ℕ) (standing : Standing) (queue : List Request) (replies : List Reply) (request : Request)
    → request.asker ≡ session → asked_by session queue ≡ [] → answered_to session replies ≡ [] → Stands session standing queue replies
    → Led session standing (Some (asks request.request)) (queue ++ request ∷ []) replies
asks_own session nothing_open queue replies request own none unanswered stands = (
  (λ rest talk. talk),
  record {
    waits = mine-append asker_of number_of session queue (request ∷ []) ∙ ap (λ ns. ns ++ asked_by session (request ∷ [])) none
        ∙ mine-own asker_of number_of session request [] own;
    replied = stands.replied;
  },
)
asks_own session (waiting n) queue replies request own none unanswered stands = absurd (some_none n [] (sym stands.waits ∙ none))
asks_own session (answered n) queue replies request own none unanswered stands = absurd (some_none n [] (sym stands.replied ∙ unanswered))

on_asks : (session : ℕ) (standing : Standing) (queue : List Request) (replies : List Reply) (request : Request)
    → HasNoneOf request.asker queue replies → Stands session standing queue replies
    → Led session standing (if request.asker == session then Some (asks request.request) else None) (queue ++ request ∷ []) replies
on_asks session standing queue replies request none stands =
    Led-if session request.asker standing (asks request.request) (queue ++ request ∷ []) replies
    (λ own. asks_own session standing queue replies request own
    (subst (λ actor. asked_by actor queue ≡ []) own (mine-none asker_of number_of request.asker queue none.0))
    (subst (λ actor. answered_to actor replies ≡ []) own (mine-none replied_to number_in request.asker replies none.1)) stands)
    (λ other. record {
      waits = mine-append asker_of number_of session queue (request ∷ [])
          ∙ ap (λ ns. asked_by session queue ++ ns) (mine-other asker_of number_of session request [] other) ∙ append-nil (asked_by session queue) ∙ stands.waits;
      replied = stands.replied;
    })

-- the oldest request answered
answers_own : (session : ℕ) (standing : Standing) (first : Request) (rest : List Request) (replies : List Reply) (reply : Reply)
    → reply.asker ≡ first.asker → reply.request ≡ first.request → first.asker ≡ session → Stands session standing (first ∷ rest) replies
    → Led session standing (Some (answers first.request)) rest (replies ++ reply ∷ [])
answers_own session nothing_open first rest replies reply to number own stands =
    absurd (some_none first.request (asked_by session rest) (sym (mine-own asker_of number_of session first rest own) ∙ stands.waits))
answers_own session (waiting n) first rest replies reply to number own stands =
    let same : first.request ∷ asked_by session rest ≡ n ∷ [] = sym (mine-own asker_of number_of session first rest own) ∙ stands.waits in
    let number_is : first.request ≡ n = same_first first.request n (asked_by session rest) [] same in (
      (λ more talk. (number_is, subst (λ m. IsTalk (answered m) more) number_is talk)),
      record {
        waits = same_rest first.request n (asked_by session rest) [] same;
        replied = mine-append replied_to number_in session replies (reply ∷ []) ∙ ap (λ ns. ns ++ answered_to session (reply ∷ [])) stands.replied
            ∙ mine-own replied_to number_in session reply [] (to ∙ own) ∙ ap (λ number. number ∷ []) number;
      },
    )
answers_own session (answered n) first rest replies reply to number own stands =
    absurd (some_none first.request (asked_by session rest) (sym (mine-own asker_of number_of session first rest own) ∙ stands.waits))

on_answers : (session : ℕ) (standing : Standing) (first : Request) (rest : List Request) (replies : List Reply) (reply : Reply)
    → reply.asker ≡ first.asker → reply.request ≡ first.request → Stands session standing (first ∷ rest) replies
    → Led session standing (if first.asker == session then Some (answers first.request) else None) rest (replies ++ reply ∷ [])
on_answers session standing first rest replies reply to number stands =
    Led-if session first.asker standing (answers first.request) rest (replies ++ reply ∷ [])
    (λ own. answers_own session standing first rest replies reply to number own stands)
    (λ other. record {
      waits = sym (mine-other asker_of number_of session first rest other) ∙ stands.waits;
      replied = mine-append replied_to number_in session replies (reply ∷ [])
          ∙ ap (λ ns. answered_to session replies ++ ns) (mine-other replied_to number_in session reply [] (λ own. other (sym to ∙ own))) ∙ append-nil (answered_to session replies) ∙ stands.replied;
    })

-- an answer taken
takes_own : (session number : ℕ) (standing : Standing) (queue : List Request) (replies : List Reply)
    → IsServed session number replies → Stands session standing queue replies
    → Led session standing (Some (takes number)) queue (untaken session replies)
takes_own session number nothing_open queue replies there stands =
    absurd (mine-has replied_to number_in (λ n. ⊥) session number replies (subst (All (λ n. ⊥)) (sym stands.replied) (All-nil (λ (n : ℕ). ⊥))) there)
takes_own session number (waiting n) queue replies there stands =
    absurd (mine-has replied_to number_in (λ n. ⊥) session number replies (subst (All (λ n. ⊥)) (sym stands.replied) (All-nil (λ (n : ℕ). ⊥))) there)
takes_own session number (answered n) queue replies there stands =
    let same : number ≡ n = mine-has replied_to number_in (λ m. m ≡ n) session number replies
    (subst (All (λ m. m ≡ n)) (sym stands.replied) (All-cons (λ m. m ≡ n) n [] refl (All-nil (λ m. m ≡ n)))) there in
    ((λ more talk. (same, talk)), record { waits = stands.waits; replied = mine-gone replied_to number_in session replies })

on_takes : (session actor number : ℕ) (standing : Standing) (queue : List Request) (replies : List Reply)
    → IsServed actor number replies → Stands session standing queue replies
    → Led session standing (if actor == session then Some (takes number) else None) queue (untaken actor replies)
on_takes session actor number standing queue replies there stands =
    Led-if session actor standing (takes number) queue (untaken actor replies)
    (λ own. subst (λ who. Led session standing (Some (takes number)) queue (untaken who replies)) (sym own)
    (takes_own session number standing queue replies (subst (λ who. IsServed who number replies) own there) stands))
    (λ other. record { waits = stands.waits; replied = mine-kept replied_to number_in session actor replies other ∙ stands.replied })

-- a request that leaves
leaves_own : (session number : ℕ) (standing : Standing) (queue : List Request) (replies : List Reply)
    → IsQueued session number queue → Stands session standing queue replies
    → Led session standing (Some (leaves number)) (without session queue) replies
leaves_own session number nothing_open queue replies there stands =
    absurd (mine-has asker_of number_of (λ n. ⊥) session number queue (subst (All (λ n. ⊥)) (sym stands.waits) (All-nil (λ (n : ℕ). ⊥))) there)
leaves_own session number (waiting n) queue replies there stands =
    let same : number ≡ n = mine-has asker_of number_of (λ m. m ≡ n) session number queue
    (subst (All (λ m. m ≡ n)) (sym stands.waits) (All-cons (λ m. m ≡ n) n [] refl (All-nil (λ m. m ≡ n)))) there in
    ((λ more talk. (same, talk)), record { waits = mine-gone asker_of number_of session queue; replied = stands.replied })
leaves_own session number (answered n) queue replies there stands =
    absurd (mine-has asker_of number_of (λ n. ⊥) session number queue (subst (All (λ n. ⊥)) (sym stands.waits) (All-nil (λ (n : ℕ). ⊥))) there)

on_leaves : (session actor number : ℕ) (standing : Standing) (queue : List Request) (replies : List Reply)
    → IsQueued actor number queue → Stands session standing queue replies
    → Led session standing (if actor == session then Some (leaves number) else None) (without actor queue) replies
on_leaves session actor number standing queue replies there stands =
    Led-if session actor standing (leaves number) (without actor queue) replies
    (λ own. subst (λ who. Led session standing (Some (leaves number)) (without who queue) replies) (sym own)
    (leaves_own session number standing queue replies (subst (λ who. IsQueued who number queue) own there) stands))
    (λ other. record { waits = mine-kept asker_of number_of session actor queue other ∙ stands.waits; replied = stands.replied })

module _ (terms : Terms) (session : ℕ) (standing : Standing) (doomed : Bool) (replies : List Reply) (desk actor seq turn : ℕ) where
  abbrev the_state : Phase → State
  the_state phase = record { phase = phase; doomed = doomed; replies = replies }

  abbrev the_entry : Event → Entry
  the_entry event = record { desk = desk; actor = actor; seq = seq; turn = turn; event = event }

  abbrev Goal : Phase → Event → Type 0
  Goal phase event =
      ComesIn terms (the_state phase) (the_entry event) phase event → Stands session standing (queue_of phase) replies →
      Led session standing (word_by session actor event) (queue_of (after_event terms (the_state phase) (the_entry event) event).phase)
      (after_event terms (the_state phase) (the_entry event) event).replies

  -- Whoever else waits, waits on.
  served_rest : (quantum : ℕ) (statement : Statement) (execution : Execution) (first : Request) (rest : List Request) (steps at : ℕ)
      → queue_of (served quantum statement execution (first ∷ rest) steps at) ≡ rest
  served_rest quantum statement execution first [] steps at = refl
  served_rest quantum statement execution first (next ∷ rest) steps at = refl

  on_first : (statement : Statement) (execution : Execution) (queue : List Request) (asker number : ℕ) (report : Report) (begin : ℕ)
      → ServesFirst terms statement execution queue (the_entry (Served asker number report)) asker number report
      → Stands session standing queue replies
      → Led session standing (if asker == session then Some (answers number) else None) (queue_of (served terms.quantum statement execution queue report.steps turn))
      (replies ++ (record { asker = asker; request = number; report = report; begin = begin }) ∷ [])
  on_first statement execution [] asker number report begin comes stands = absurd comes
  on_first statement execution (first ∷ rest) asker number report begin comes stands =
      let reply : Reply = record { asker = asker; request = number; report = report; begin = begin } in
      subst (λ waits. Led session standing (if asker == session then Some (answers number) else None) waits (replies ++ reply ∷ [])) (sym (served_rest terms.quantum statement execution first rest report.steps turn))
      (subst (λ who. Led session standing (if who == session then Some (answers number) else None) rest (replies ++ reply ∷ [])) comes.asked.0
      (subst (λ what. Led session standing (if first.asker == session then Some (answers what) else None) rest (replies ++ reply ∷ [])) comes.asked.1
      (on_answers session standing first rest replies reply (sym comes.asked.0) (sym comes.asked.1) stands)))

  on_served : (phase : Phase) (asker number : ℕ) (report : Report) → Goal phase (Served asker number report)
  on_served (planned statement execution) asker number report comes stands = on_first statement execution execution.queue asker number report statement.begin comes stands
  on_served (serving statement execution steps at) asker number report comes stands = on_first statement execution execution.queue asker number report statement.begin comes.0 stands
  on_served phase asker number report comes stands = absurd comes

  on_taken : (phase : Phase) (number : ℕ) → Goal phase (Taken number)
  on_taken (serving statement execution steps at) number comes stands = absurd comes
  on_taken phase number comes stands = on_takes session actor number standing (queue_of phase) replies comes stands

  on_spent : (phase : Phase) (number turns : ℕ) → Goal phase (Spent number turns)
  on_spent (planned statement execution) number turns comes stands = on_leaves session actor number standing execution.queue replies comes.0 stands
  on_spent phase number turns comes stands = absurd comes

  on_withdrawn : (phase : Phase) (number : ℕ) → Goal phase (Withdrawn number)
  on_withdrawn (planned statement execution) number comes stands = on_leaves session actor number standing execution.queue replies comes stands
  on_withdrawn phase number comes stands = absurd comes

  on_kill : (phase : Phase) (number : ℕ) (kind : KillKind) → Goal phase (KillSent number kind)
  on_kill (serving statement execution steps at) number kind comes stands = absurd comes
  on_kill phase number kind comes stands = stands

  on_waited : (phase : Phase) (number steps : ℕ) → Goal phase (Waited number steps)
  on_waited (serving statement execution shown at) number steps comes stands = absurd comes
  on_waited phase number steps comes stands = stands

  on_wait_spent : (phase : Phase) (number steps turns : ℕ) → Goal phase (WaitSpent number steps turns)
  on_wait_spent (serving statement execution shown at) number steps turns comes stands = absurd comes
  on_wait_spent phase number steps turns comes stands = stands

  begun_empty : (statement : Statement) (plan : Option Plan) (tables : Option RunData) → queue_of (begun statement plan tables) ≡ []
  begun_empty statement (Some plan) (Some tables) = refl
  begun_empty statement plan tables = refl

  led_after : (phase : Phase) (event : Event) → Goal phase event
  led_after idle (Begin number text version plan tables) comes stands =
      subst (λ waits. Stands session standing waits replies)
      (sym (begun_empty (record { number = number; begin = seq; turn = turn; killed = false }) plan tables)) stands
  led_after phase (Begin number text version plan tables) comes stands = absurd comes
  led_after (planned statement execution) (Queued number kind at budget) comes stands =
      on_asks session standing execution.queue replies (record { asker = actor; request = number; at = at }) comes.0 stands
  led_after phase (Queued number kind at budget) comes stands = absurd comes
  led_after phase (Refused number why) comes stands = stands
  led_after phase (Served asker number report) comes stands = on_served phase asker number report comes stands
  led_after phase (Taken number) comes stands = on_taken phase number comes stands
  led_after phase (Spent number turns) comes stands = on_spent phase number turns comes stands
  led_after phase (Withdrawn number) comes stands = on_withdrawn phase number comes stands
  led_after phase (KillSent number kind) comes stands = on_kill phase number kind comes stands
  led_after phase (Waited number steps) comes stands = on_waited phase number steps comes stands
  led_after phase (WaitSpent number steps turns) comes stands = on_wait_spent phase number steps turns comes stands
  led_after (unplanned statement) (End number outcome steps) comes stands = stands
  led_after (planned statement execution) (End number outcome steps) comes stands =
      subst (λ waits. Stands session standing waits replies) comes.1.served stands
  led_after phase (End number outcome steps) comes stands = absurd comes
  led_after phase (Gone number) comes stands = stands
  led_after idle Close comes stands = stands
  led_after phase Close comes stands = absurd comes

-- The state has the session stand so.
abbrev pub StandsIn : ℕ → Standing → State → Type 0
StandsIn session standing state = Stands session standing (queue_of state.phase) state.replies

pub Led-after : (terms : Terms) (session : ℕ) (standing : Standing) (state : State) (entry : Entry) → Comes terms state entry → StandsIn session standing state
    → Led session standing (word_by session entry.actor entry.event) (queue_of (after terms state entry).phase) (after terms state entry).replies
Led-after terms session standing state entry comes stands =
    led_after terms session standing state.doomed state.replies entry.desk entry.actor entry.seq entry.turn state.phase entry.event comes stands

-- A talk goes on with what an entry says, and then with the others.
IsTalk-more : (session : ℕ) (standing : Standing) (entry : Entry) (others : List Entry) (word : Option Word) (queue : List Request) (replies : List Reply)
    → word_by session entry.actor entry.event ≡ word → Led session standing word queue replies
    → ((next : Standing) → Stands session next queue replies → IsTalk next (words session others)) → IsTalk standing (words session (entry ∷ others))
IsTalk-more session standing entry others None queue replies is led talks = rw is (talks standing led)
IsTalk-more session standing entry others (Some word) queue replies is led talks = rw is (led.0 (words session others) (talks (led_to word) led.1))

pub IsTalk-run : (terms : Terms) (session : ℕ) (standing : Standing) (state : State) (journal : List Entry) → Runs terms state journal → StandsIn session standing state
    → IsTalk standing (words session journal)
IsTalk-run terms session standing state [] run stands = tt
IsTalk-run terms session standing state (entry ∷ rest) run stands =
    IsTalk-more session standing entry rest (word_by session entry.actor entry.event) (queue_of (after terms state entry).phase) (after terms state entry).replies refl
    (Led-after terms session standing state entry run.0 stands)
    (λ next now. IsTalk-run terms session next (after terms state entry) rest run.1 now)

pub requests_in_turn : (terms : Terms) (journal : List Entry) (session : ℕ) → IsDeskRun terms journal → IsTalk nothing_open (words session journal)
requests_in_turn terms journal session run = IsTalk-run terms session nothing_open start journal run.runs (record { waits = refl; replied = refl })

-- Each session stands somewhere.
abbrev pub AllStandIn : List Request → List Reply → Type 0
AllStandIn queue replies = (session : ℕ) → (standing : Standing) × Stands session standing queue replies

abbrev pub AllStand : State → Type 0
AllStand state = AllStandIn (queue_of state.phase) state.replies

stands_next : (session : ℕ) (standing : Standing) (word : Option Word) (queue : List Request) (replies : List Reply) → Led session standing word queue replies
    → (next : Standing) × Stands session next queue replies
stands_next session standing None queue replies led = (standing, led)
stands_next session standing (Some word) queue replies led = (led_to word, led.1)

pub AllStand-start : AllStand start
AllStand-start session = (nothing_open, record { waits = refl; replied = refl })

pub AllStand-after : (terms : Terms) (state : State) (entry : Entry) → Comes terms state entry → AllStand state → AllStand (after terms state entry)
AllStand-after terms state entry comes all session =
    let now = all session in
    stands_next session now.0 (word_by session entry.actor entry.event) (queue_of (after terms state entry).phase) (after terms state entry).replies
    (Led-after terms session now.0 state entry comes now.1)

-- The others who wait are other sessions than the first.
pub only_first : (standing : Standing) (first : Request) (rest : List Request) (replies : List Reply) → Stands first.asker standing (first ∷ rest) replies
    → All (λ request. request.asker ≢ first.asker) rest
only_first (waiting n) first rest replies stands =
    none-mine asker_of number_of first.asker rest (same_rest first.request n (asked_by first.asker rest) [] (sym (mine-own asker_of number_of first.asker first rest refl) ∙ stands.waits))
only_first nothing_open first rest replies stands =
    absurd (some_none first.request (asked_by first.asker rest) (sym (mine-own asker_of number_of first.asker first rest refl) ∙ stands.waits))
only_first (answered n) first rest replies stands =
    absurd (some_none first.request (asked_by first.asker rest) (sym (mine-own asker_of number_of first.asker first rest refl) ∙ stands.waits))

-- Whoever was answered doesn't wait.
pub served_waits_not : (standing : Standing) (session number : ℕ) (queue : List Request) (replies : List Reply) → IsServed session number replies
    → Stands session standing queue replies → All (λ request. request.asker ≢ session) queue
served_waits_not (waiting n) session number queue replies there stands =
    absurd (mine-has replied_to number_in (λ n. ⊥) session number replies (subst (All (λ n. ⊥)) (sym stands.replied) (All-nil (λ (n : ℕ). ⊥))) there)
served_waits_not standing session number queue replies there stands = none-mine asker_of number_of session queue stands.waits
