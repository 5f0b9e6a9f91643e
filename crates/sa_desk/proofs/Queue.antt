-- All who wait were queued at the number of steps that was shown last.
use Rattle.std.proofs.Common.{◌≡◌, ℕ, ◌+◌, ◌/◌, ◌≤◌, ◌≢◌, ◌==◌, Bool, not, false, List, [], ◌∷◌, Option, Some, All, refl, sym, subst, ◌∙◌}
use Rattle.std.specs.Prelude.{⊤}
use Rattle.std.proofs.lemmas.List.Elements.{All-nil, All-push, All-head, All-tail, All-filter}
use Rattle.sa_plan.specs.declared.plan.Plan.{Plan}
use Rattle.sa_meaning.specs.Data.{RunData}
use Rattle.sa_ast.specs.declared.kind.AskKind.{AskKind}
use Rattle.sa_ast.specs.declared.kind.KillKind.{KillKind}
use Rattle.sa_count.specs.declared.report.Report.{Report}
use Rattle.sa_desk.specs.declared.entry.Entry.{Entry}
use Rattle.sa_desk.specs.declared.entry.Event.{Event}
use Rattle.sa_desk.specs.declared.entry.Event.TheVariants.{Begin, Queued, Refused, Served, Taken, Spent, Withdrawn, KillSent, Waited, WaitSpent, End, Gone, Close}
use Rattle.sa_desk.specs.declared.request.Request.{Request}
use Rattle.sa_desk.specs.declared.request.Reply.{Reply}
use Rattle.sa_desk.specs.State.{Terms, Statement, Execution, Phase, idle, unplanned, planned, serving, closed, State, start, IsPublished, IsLawful}
use Rattle.sa_desk.specs.Comes.{ComesIn, Comes, ServesFirst}
use Rattle.sa_desk.specs.After.{after_event, after, begun, served, without}
use Rattle.sa_desk.specs.Runs.{state_of, Runs}
use Rattle.sa_desk.specs.Contents.{Contents, phase, IsSound}
use Rattle.sa_desk.proofs.Append.{kept_along}

-- They were all queued at this number of steps.
abbrev pub AllAt : ℕ → List Request → Type 0
AllAt steps queue = All (λ request. request.at ≡ steps) queue

-- While some are served, the others wait, all queued at one number, and the number that they are served with is shown.
pub record IsServing (quantum : ℕ) (statement : Statement) (execution : Execution) (steps turn : ℕ) : Type 0 where
  pub at : ℕ
  pub all_at : AllAt at execution.queue
  pub some : execution.queue ≢ []
  pub shown : execution.shown ≡ steps
  pub least : at ≤ steps
  pub most : steps ≤ at + quantum
  pub turn_is : turn ≡ statement.turn + at / quantum + 1

-- Those who wait were queued at the number that was shown last, until the first of them is served.
abbrev pub IsAligned : ℕ → Phase → Type 0
IsAligned quantum (planned statement execution) = AllAt execution.shown execution.queue
IsAligned quantum (serving statement execution steps turn) = IsServing quantum statement execution steps turn
IsAligned quantum phase = ⊤

-- A number that may be published leaves them aligned.
AllAt-published : (quantum : ℕ) (execution : Execution) (queue : List Request) (steps : ℕ) → queue ≡ execution.queue
    → IsPublished quantum execution steps → AllAt execution.shown queue → AllAt steps queue
AllAt-published quantum execution [] steps same published all = All-nil (λ (request : Request). request.at ≡ steps)
AllAt-published quantum execution (first ∷ rest) steps same published all =
    let waits : execution.queue ≢ [] = λ none. let empty : first ∷ rest ≡ [] = same ∙ none in cc in
    subst (λ number. AllAt number (first ∷ rest)) (sym (published.fixed waits)) all

module _ (terms : Terms) (doomed : Bool) (replies : List Reply) (desk actor seq turn : ℕ) where
  abbrev the_state : Phase → State
  the_state phase = record { phase = phase; doomed = doomed; replies = replies }

  abbrev the_entry : Event → Entry
  the_entry event = record { desk = desk; actor = actor; seq = seq; turn = turn; event = event }

  abbrev Goal : Phase → Event → Type 0
  Goal phase event =
      ComesIn terms (the_state phase) (the_entry event) phase event → IsAligned terms.quantum phase →
      IsAligned terms.quantum (after_event terms (the_state phase) (the_entry event) event).phase

  on_asks : (phase : Phase) (number : ℕ) (kind : AskKind) (at budget : ℕ) → Goal phase (Queued number kind at budget)
  on_asks (planned statement execution) number kind at budget comes aligned =
      All-push (λ (request : Request). request.at ≡ at) execution.queue (record { asker = actor; request = number; at = at })
      (AllAt-published terms.quantum execution execution.queue at refl comes.1 aligned) refl
  on_asks phase number kind at budget comes aligned = absurd comes

  on_leaves : (statement : Statement) (execution : Execution) → AllAt execution.shown execution.queue → AllAt execution.shown (without actor execution.queue)
  on_leaves statement execution aligned =
      All-filter (λ request. not (request.asker == actor)) (λ (request : Request). request.at ≡ execution.shown) execution.queue aligned

  on_spent : (phase : Phase) (number turns : ℕ) → Goal phase (Spent number turns)
  on_spent (planned statement execution) number turns comes aligned = on_leaves statement execution aligned
  on_spent phase number turns comes aligned = absurd comes

  on_withdrawn : (phase : Phase) (number : ℕ) → Goal phase (Withdrawn number)
  on_withdrawn (planned statement execution) number comes aligned = on_leaves statement execution aligned
  on_withdrawn phase number comes aligned = absurd comes

  on_kill : (phase : Phase) (number : ℕ) (kind : KillKind) → Goal phase (KillSent number kind)
  on_kill idle number kind comes aligned = tt
  on_kill (unplanned statement) number kind comes aligned = tt
  on_kill (planned statement execution) number kind comes aligned = aligned
  on_kill (serving statement execution steps turn) number kind comes aligned = absurd comes
  on_kill closed number kind comes aligned = absurd comes

  on_waited : (phase : Phase) (number steps : ℕ) → Goal phase (Waited number steps)
  on_waited idle number steps comes aligned = tt
  on_waited (unplanned statement) number steps comes aligned = tt
  on_waited (planned statement execution) number steps comes aligned =
      AllAt-published terms.quantum execution execution.queue steps refl comes aligned
  on_waited (serving statement execution shown turn) number steps comes aligned = absurd comes
  on_waited closed number steps comes aligned = absurd comes

  on_wait_spent : (phase : Phase) (number steps turns : ℕ) → Goal phase (WaitSpent number steps turns)
  on_wait_spent idle number steps turns comes aligned = tt
  on_wait_spent (unplanned statement) number steps turns comes aligned = tt
  on_wait_spent (planned statement execution) number steps turns comes aligned =
      AllAt-published terms.quantum execution execution.queue steps refl comes aligned
  on_wait_spent (serving statement execution shown turn) number steps turns comes aligned = absurd comes
  on_wait_spent closed number steps turns comes aligned = absurd comes

  on_begun : (statement : Statement) (plan : Option Plan) (tables : Option RunData) → IsAligned terms.quantum (begun statement plan tables)
  on_begun statement (Some plan) (Some tables) = All-nil (λ (request : Request). request.at ≡ 0)
  on_begun statement plan tables = tt

  on_first : (statement : Statement) (execution : Execution) (queue : List Request) (event : Event) (asker number : ℕ) (report : Report) (at : ℕ)
      → ServesFirst terms statement execution queue (the_entry event) asker number report → AllAt at queue
      → IsAligned terms.quantum (served terms.quantum statement execution queue report.steps turn)
  on_first statement execution [] event asker number report at comes aligned = absurd comes
  on_first statement execution (first ∷ []) event asker number report at comes aligned =
      All-nil (λ (request : Request). request.at ≡ report.steps)
  on_first statement execution (first ∷ next ∷ rest) event asker number report at comes aligned =
      let first_at : first.at ≡ at = All-head (λ (request : Request). request.at ≡ at) first (next ∷ rest) aligned in
      record {
        at = at;
        all_at = All-tail (λ (request : Request). request.at ≡ at) first (next ∷ rest) aligned;
        some = λ none. cc;
        shown = refl;
        least = subst (λ number. number ≤ report.steps) first_at comes.least;
        most = subst (λ number. report.steps ≤ number + terms.quantum) first_at comes.most;
        turn_is = subst (λ number. turn ≡ statement.turn + number / terms.quantum + 1) first_at comes.turn;
      }

  on_served : (phase : Phase) (asker number : ℕ) (report : Report) → Goal phase (Served asker number report)
  on_served (planned statement execution) asker number report comes aligned =
      on_first statement execution execution.queue (Served asker number report) asker number report execution.shown comes aligned
  on_served (serving statement execution steps turns) asker number report comes aligned =
      on_first statement execution execution.queue (Served asker number report) asker number report aligned.at comes.0 aligned.all_at
  on_served phase asker number report comes aligned = absurd comes

  aligned_after : (phase : Phase) (event : Event) → Goal phase event
  aligned_after phase (Begin number text version plan tables) comes aligned =
      on_begun (record { number = number; begin = seq; turn = turn; killed = false }) plan tables
  aligned_after phase (Queued number kind at budget) comes aligned = on_asks phase number kind at budget comes aligned
  aligned_after phase (Refused number why) comes aligned = aligned
  aligned_after phase (Served asker number report) comes aligned = on_served phase asker number report comes aligned
  aligned_after phase (Taken number) comes aligned = aligned
  aligned_after phase (Spent number turns) comes aligned = on_spent phase number turns comes aligned
  aligned_after phase (Withdrawn number) comes aligned = on_withdrawn phase number comes aligned
  aligned_after phase (KillSent number kind) comes aligned = on_kill phase number kind comes aligned
  aligned_after phase (Waited number steps) comes aligned = on_waited phase number steps comes aligned
  aligned_after phase (WaitSpent number steps turns) comes aligned = on_wait_spent phase number steps turns comes aligned
  aligned_after phase (End number outcome steps) comes aligned = tt
  aligned_after phase (Gone number) comes aligned = aligned
  aligned_after phase Close comes aligned = tt

-- Each entry that may come leaves those who wait aligned.
pub IsAligned-after : (terms : Terms) (state : State) (entry : Entry) → Comes terms state entry → IsAligned terms.quantum state.phase → IsAligned terms.quantum (after terms state entry).phase
IsAligned-after terms state entry comes aligned =
    aligned_after terms state.doomed state.replies entry.desk entry.actor entry.seq entry.turn state.phase entry.event comes aligned

pub IsAligned-run : (terms : Terms) (journal : List Entry) → Runs terms start journal → IsAligned terms.quantum (state_of terms journal).phase
IsAligned-run terms journal run =
    kept_along terms (λ entry. ⊤) (λ state. IsAligned terms.quantum state.phase)
    (λ before entry kind comes aligned. IsAligned-after terms before entry comes aligned)
    start journal (λ k entry within. tt) run tt

-- Whoever waits at a running statement was queued at the number that was shown last.
pub queued_at_shown : (terms : Terms) (journal : List Entry) (statement : Statement) (execution : Execution) → Runs terms start journal
    → (state_of terms journal).phase ≡ planned statement execution → All (λ request. request.at ≡ execution.shown) execution.queue
queued_at_shown terms journal statement execution run on = subst (IsAligned terms.quantum) on (IsAligned-run terms journal run)

-- Whoever still waits while others are served was queued at the number that those were.
pub queued_at_one : (terms : Terms) (journal : List Entry) (statement : Statement) (execution : Execution) (steps turn : ℕ) → Runs terms start journal
    → (state_of terms journal).phase ≡ serving statement execution steps turn → IsServing terms.quantum statement execution steps turn
queued_at_one terms journal statement execution steps turn run on = subst (IsAligned terms.quantum) on (IsAligned-run terms journal run)

-- At a desk with a running statement, whoever waits was queued at the number that is published.
pub queued_at_published : (desk : Contents) (statement : Statement) (execution : Execution) → IsSound desk → phase desk ≡ planned statement execution
    → All (λ request. request.at ≡ desk.published) execution.queue
queued_at_published desk statement execution sound on =
    AllAt-published desk.terms.quantum execution execution.queue desk.published refl
    (subst (λ now. IsLawful desk.terms.quantum now desk.published) on sound.lawful)
    (queued_at_shown desk.terms desk.journal statement execution sound.run.runs on)
