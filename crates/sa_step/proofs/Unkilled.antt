-- For a statement that is not killed no kill came after its Begin.
use Rattle.std.proofs.Common.{◌≡◌, ℕ, ◌<◌, ◌≤◌, false, Option, Some, None, List, [], ◌∷◌, ◌++◌, All, refl, sym, subst, ap, arith, append_assoc, append-nil}
use Rattle.std.specs.Prelude.{⊤}
use Rattle.std.proofs.lemmas.List.Elements.{All-push, All-weaker}
use Rattle.sa_ast.specs.declared.kind.KillKind.{KillKind}
use Rattle.sa_meaning.specs.Data.{RunData}
use Rattle.sa_plan.specs.declared.plan.Plan.{Plan}
use Rattle.sa_desk.specs.declared.entry.Entry.{Entry}
use Rattle.sa_desk.specs.declared.entry.Event.{Event}
use Rattle.sa_desk.specs.declared.entry.Event.TheVariants.{Begin, Queued, Refused, Served, Taken, Spent, Withdrawn, KillSent, Waited, WaitSpent, End, Gone, Close}
use Rattle.sa_desk.specs.declared.request.Request.{Request}
use Rattle.sa_desk.specs.State.{Terms, Statement, Execution, Phase, idle, unplanned, planned, serving, closed, State, start}
use Rattle.sa_desk.specs.Comes.{ComesIn}
use Rattle.sa_desk.specs.After.{after, after_event, begun, queued, showing, taken_out, killed, served, after_serving}
use Rattle.sa_desk.specs.Own.{Outline, free, plainly, running, over, outline}
use Rattle.sa_desk.specs.Runs.{Runs, state_after, state_of}
use Rattle.sa_desk.specs.Serving.{begin_turn, is_killed}
use Rattle.sa_step.specs.Schedule.{AreEach, slot_of, ComesLast}
use Rattle.sa_step.specs.Course.{IsKill}

-- the statement that is on
abbrev standing : Phase → Option Statement
standing idle = None
standing (unplanned statement) = Some statement
standing (planned statement execution) = Some statement
standing (serving statement execution steps turn) = Some statement
standing closed = None

-- What leaves it.
standing-begun : (statement : Statement) (plan : Option Plan) (tables : Option RunData) → standing (begun statement plan tables) ≡ Some statement
standing-begun statement None tables = refl
standing-begun statement (Some plan) None = refl
standing-begun statement (Some plan) (Some tables) = refl

standing-queued : (phase : Phase) (request : Request) → standing (queued phase request) ≡ standing phase
standing-queued idle request = refl
standing-queued (unplanned s) request = refl
standing-queued (planned s e) request = refl
standing-queued (serving s e steps turn) request = refl
standing-queued closed request = refl

standing-showing : (phase : Phase) (steps : ℕ) → standing (showing phase steps) ≡ standing phase
standing-showing idle steps = refl
standing-showing (unplanned s) steps = refl
standing-showing (planned s e) steps = refl
standing-showing (serving s e n turn) steps = refl
standing-showing closed steps = refl

standing-taken_out : (phase : Phase) (actor : ℕ) → standing (taken_out phase actor) ≡ standing phase
standing-taken_out idle actor = refl
standing-taken_out (unplanned s) actor = refl
standing-taken_out (planned s e) actor = refl
standing-taken_out (serving s e n turn) actor = refl
standing-taken_out closed actor = refl

standing-served : (quantum : ℕ) (s : Statement) (e : Execution) (queue : List Request) (steps turn : ℕ) → standing (served quantum s e queue steps turn) ≡ Some s
standing-served quantum s e [] steps turn = refl
standing-served quantum s e (first ∷ []) steps turn = refl
standing-served quantum s e (first ∷ next ∷ rest) steps turn = refl

standing-serving : (quantum : ℕ) (phase : Phase) (steps turn : ℕ) → standing (after_serving quantum phase steps turn) ≡ standing phase
standing-serving quantum idle steps turn = refl
standing-serving quantum (unplanned s) steps turn = refl
standing-serving quantum (planned s e) steps turn = standing-served quantum s e e.queue steps turn
standing-serving quantum (serving s e n at) steps turn = standing-served quantum s e e.queue steps turn
standing-serving quantum closed steps turn = refl

module _ (slot : (session turn : ℕ) → ℕ) (terms : Terms) where
  abbrev CameBefore : ℕ → Entry → Type 0
  CameBefore turn was = IsKill was.event → slot_of slot was ≤ slot terms.desk turn

  -- Where it isn't killed all kills came before its Begin.
  abbrev AreBeforeIt : List Entry → Option Statement → Type 0
  AreBeforeIt before None = ⊤
  AreBeforeIt before (Some statement) = statement.killed ≡ false → All (CameBefore statement.turn) before

  module _ (before : List Entry) (state : State) (entry : Entry) (last : All (λ was. slot_of slot was ≤ slot_of slot entry) before) where
    abbrev longer : List Entry
    longer = before ++ entry ∷ []

    more_on : (on : Option Statement) → (IsKill entry.event → ⊥) → AreBeforeIt before on → AreBeforeIt longer on
    more_on None quiet all = tt
    more_on (Some statement) quiet all = λ unkilled. All-push (CameBefore statement.turn) before entry (all unkilled) (λ kill. absurd (quiet kill))

    same : (next : Phase) → standing next ≡ standing state.phase → (IsKill entry.event → ⊥) → AreBeforeIt before (standing state.phase) → AreBeforeIt longer (standing next)
    same next is quiet all = subst (AreBeforeIt longer) (sym is) (more_on (standing state.phase) quiet all)

    own_begin : (phase : Phase) (number : ℕ) (text : List ℕ) (version : ℕ) (plan : Option Plan) (tables : Option RunData) → ComesIn terms state entry phase (Begin number text version plan tables) → entry.actor ≡ terms.desk
    own_begin idle number text version plan tables comes = comes.0
    own_begin (unplanned s) number text version plan tables comes = absurd comes
    own_begin (planned s e) number text version plan tables comes = absurd comes
    own_begin (serving s e steps turn) number text version plan tables comes = absurd comes
    own_begin closed number text version plan tables comes = absurd comes

    begins : (IsKill entry.event → ⊥) → entry.actor ≡ terms.desk → All (CameBefore entry.turn) longer
    begins quiet own =
        let place : slot_of slot entry ≡ slot terms.desk entry.turn = ap (λ actor. slot actor entry.turn) own in
        All-push (CameBefore entry.turn) before entry
        (All-weaker (λ was. slot_of slot was ≤ slot_of slot entry) (CameBefore entry.turn) (λ was less kill. omega (arith, less, place)) before last) (λ kill. absurd (quiet kill))

    kills : (number : ℕ) (kind : KillKind) (found : Phase) → ComesIn terms state entry found (KillSent number kind) → AreBeforeIt longer (standing (killed found))
    kills number kind idle comes = tt
    kills number kind (unplanned s) comes = λ unkilled. cc
    kills number kind (planned s e) comes = λ unkilled. cc
    kills number kind (serving s e steps turn) comes = absurd comes
    kills number kind closed comes = absurd comes

    step_in : (event : Event) → entry.event ≡ event → ComesIn terms state entry state.phase event → AreBeforeIt before (standing state.phase) → AreBeforeIt longer (standing (after_event terms state entry event).phase)
    step_in (Begin number text version plan tables) is comes all =
        subst (AreBeforeIt longer) (sym (standing-begun _ plan tables)) (λ unkilled. begins (λ kill. subst IsKill is kill) (own_begin state.phase number text version plan tables comes))
    step_in (Queued number kind at budget) is comes all = same _ (standing-queued state.phase _) (λ kill. subst IsKill is kill) all
    step_in (Refused number why) is comes all = same _ refl (λ kill. subst IsKill is kill) all
    step_in (Served asker number report) is comes all = same _ (standing-serving terms.quantum state.phase report.steps entry.turn) (λ kill. subst IsKill is kill) all
    step_in (Taken number) is comes all = same _ refl (λ kill. subst IsKill is kill) all
    step_in (Spent number turns) is comes all = same _ (standing-taken_out state.phase entry.actor) (λ kill. subst IsKill is kill) all
    step_in (Withdrawn number) is comes all = same _ (standing-taken_out state.phase entry.actor) (λ kill. subst IsKill is kill) all
    step_in (KillSent number kind) is comes all = kills number kind state.phase comes
    step_in (Waited number steps) is comes all = same _ (standing-showing state.phase steps) (λ kill. subst IsKill is kill) all
    step_in (WaitSpent number steps turns) is comes all = same _ (standing-showing state.phase steps) (λ kill. subst IsKill is kill) all
    step_in (End number outcome steps) is comes all = tt
    step_in (Gone number) is comes all = same _ refl (λ kill. subst IsKill is kill) all
    step_in Close is comes all = tt

  along : (before : List Entry) (state : State) (entries : List Entry) → Runs terms state entries → AreEach (ComesLast slot) before entries → AreBeforeIt before (standing state.phase)
      → AreBeforeIt (before ++ entries) (standing (state_after terms state entries).phase)
  along before state [] runs rising all = subst (λ entries. AreBeforeIt entries (standing state.phase)) (sym (append-nil before)) all
  along before state (entry ∷ rest) runs rising all =
      subst (λ entries. AreBeforeIt entries (standing (state_after terms (after terms state entry) rest).phase)) (append_assoc before (entry ∷ []) rest)
      (along (before ++ entry ∷ []) (after terms state entry) rest runs.1 rising.1 (step_in before state entry rising.0 entry.event refl runs.0 all))

  -- The statement that is on began in this turn.
  abbrev pub BeganIn : ℕ → Outline → Type 0
  BeganIn turn free = ⊥
  BeganIn turn (plainly number begin began) = began ≡ turn
  BeganIn turn (running number begin began plan tables) = began ≡ turn
  BeganIn turn over = ⊥

  pub began_turn : (turn : ℕ) (found : Phase) → BeganIn turn (outline found) → begin_turn found ≡ turn
  began_turn turn idle began = absurd began
  began_turn turn (unplanned s) began = began
  began_turn turn (planned s e) began = began
  began_turn turn (serving s e steps at) began = began
  began_turn turn closed began = absurd began

  abbrev pub NoneSince : ℕ → List Entry → Type 0
  NoneSince turn journal = All (λ was. IsKill was.event → slot terms.desk turn < slot_of slot was → ⊥) journal

  since : (turn began : ℕ) (journal : List Entry) → began ≡ turn → All (CameBefore began) journal → NoneSince turn journal
  since turn began journal is all =
      let place : slot terms.desk began ≡ slot terms.desk turn = ap (slot terms.desk) is in
      All-weaker (CameBefore began) (λ was. IsKill was.event → slot terms.desk turn < slot_of slot was → ⊥)
      (λ was before kill later. let less = before kill in omega (arith, less, later, place)) journal all

  found_since : (turn : ℕ) (journal : List Entry) (found : Phase) → BeganIn turn (outline found) → is_killed found ≡ false → AreBeforeIt journal (standing found) → NoneSince turn journal
  found_since turn journal idle began unkilled all = absurd began
  found_since turn journal (unplanned s) began unkilled all = since turn s.turn journal began (all unkilled)
  found_since turn journal (planned s e) began unkilled all = since turn s.turn journal began (all unkilled)
  found_since turn journal (serving s e steps at) began unkilled all = since turn s.turn journal began (all unkilled)
  found_since turn journal closed began unkilled all = absurd began

  pub none_since : (turn : ℕ) (journal : List Entry) → Runs terms start journal → AreEach (ComesLast slot) [] journal
      → BeganIn turn (outline (state_of terms journal).phase) → is_killed (state_of terms journal).phase ≡ false → NoneSince turn journal
  none_since turn journal runs rising began unkilled = found_since turn journal (state_of terms journal).phase began unkilled (along [] start journal runs rising tt)
