-- A desk's phase, but for what others change of it, is what its own session's entries tell.
use Rattle.std.proofs.Common.{◌≡◌, ◌≢◌, ℕ, List, [], ◌∷◌, Some, None, inl, inr, refl, sym, ap, ◌∙◌, arith}
use Rattle.std.proofs.lemmas.Bool.{cases_eq}
use Rattle.std.proofs.lemmas.Bool.Decides.{nat_tests}
use Rattle.sa_desk.specs.declared.entry.Entry.{Entry}
use Rattle.sa_desk.specs.declared.entry.Event.{Event}
use Rattle.sa_desk.specs.declared.entry.Event.TheVariants.{Begin, Queued, Refused, Served, Taken, Spent, Withdrawn, KillSent, Waited, WaitSpent, End, Gone, Close}
use Rattle.sa_desk.specs.declared.request.Request.{Request}
use Rattle.sa_desk.specs.State.{Terms, Statement, Execution, Phase, idle, unplanned, planned, serving, closed, State, start}
use Rattle.sa_desk.specs.Comes.{ComesIn}
use Rattle.sa_desk.specs.After.{after_event, after, queued, showing, taken_out, killed, served, after_serving}
use Rattle.sa_desk.specs.Runs.{Runs, state_after, state_of, IsDeskRun}
use Rattle.sa_desk.specs.World.{made_by}
use Rattle.sa_desk.specs.Own.{Outline, free, running, outline, own_event, own_from}

-- what leaves the outline as it is
outline-queued : (phase : Phase) (request : Request) → outline (queued phase request) ≡ outline phase
outline-queued idle request = refl
outline-queued (unplanned s) request = refl
outline-queued (planned s e) request = refl
outline-queued (serving s e steps turn) request = refl
outline-queued closed request = refl

outline-showing : (phase : Phase) (steps : ℕ) → outline (showing phase steps) ≡ outline phase
outline-showing idle steps = refl
outline-showing (unplanned s) steps = refl
outline-showing (planned s e) steps = refl
outline-showing (serving s e n turn) steps = refl
outline-showing closed steps = refl

outline-taken_out : (phase : Phase) (actor : ℕ) → outline (taken_out phase actor) ≡ outline phase
outline-taken_out idle actor = refl
outline-taken_out (unplanned s) actor = refl
outline-taken_out (planned s e) actor = refl
outline-taken_out (serving s e n turn) actor = refl
outline-taken_out closed actor = refl

outline-killed : (phase : Phase) → outline (killed phase) ≡ outline phase
outline-killed idle = refl
outline-killed (unplanned s) = refl
outline-killed (planned s e) = refl
outline-killed (serving s e n turn) = refl
outline-killed closed = refl

outline-served : (quantum : ℕ) (s : Statement) (e : Execution) (queue : List Request) (steps turn : ℕ)
    → outline (served quantum s e queue steps turn) ≡ running s.number s.begin s.turn e.plan e.tables
outline-served quantum s e [] steps turn = refl
outline-served quantum s e (first ∷ []) steps turn = refl
outline-served quantum s e (first ∷ next ∷ rest) steps turn = refl

outline-serving : (quantum : ℕ) (phase : Phase) (steps turn : ℕ) → outline (after_serving quantum phase steps turn) ≡ outline phase
outline-serving quantum idle steps turn = refl
outline-serving quantum (unplanned s) steps turn = refl
outline-serving quantum (planned s e) steps turn = outline-served quantum s e e.queue steps turn
outline-serving quantum (serving s e n at) steps turn = outline-served quantum s e e.queue steps turn
outline-serving quantum closed steps turn = refl

-- the outline after an entry
outline-after : (terms : Terms) (state : State) (entry : Entry) (event : Event)
    → outline (after_event terms state entry event).phase ≡ own_event (outline state.phase) entry event
outline-after terms state entry (Begin number text version None tables) = refl
outline-after terms state entry (Begin number text version (Some plan) None) = refl
outline-after terms state entry (Begin number text version (Some plan) (Some tables)) = refl
outline-after terms state entry (Queued number kind at budget) = outline-queued state.phase (record { asker = entry.actor; request = number; at = at })
outline-after terms state entry (Refused number why) = refl
outline-after terms state entry (Served asker number report) = outline-serving terms.quantum state.phase report.steps entry.turn
outline-after terms state entry (Taken number) = refl
outline-after terms state entry (Spent number turns) = outline-taken_out state.phase entry.actor
outline-after terms state entry (Withdrawn number) = outline-taken_out state.phase entry.actor
outline-after terms state entry (KillSent number kind) = outline-killed state.phase
outline-after terms state entry (Waited number steps) = outline-showing state.phase steps
outline-after terms state entry (WaitSpent number steps turns) = outline-showing state.phase steps
outline-after terms state entry (End number outcome steps) = refl
outline-after terms state entry (Gone number) = refl
outline-after terms state entry Close = refl

-- Others' entries leave it.
others_leave : (terms : Terms) (state : State) (entry : Entry) (phase : Phase) (event : Event) (was : Outline) → entry.actor ≢ terms.desk
    → ComesIn terms state entry phase event → own_event was entry event ≡ was
others_leave terms state entry idle (Begin number text version plan tables) was other comes = absurd (other comes.0)
others_leave terms state entry (unplanned s) (Begin number text version plan tables) was other comes = absurd comes
others_leave terms state entry (planned s e) (Begin number text version plan tables) was other comes = absurd comes
others_leave terms state entry (serving s e n turn) (Begin number text version plan tables) was other comes = absurd comes
others_leave terms state entry closed (Begin number text version plan tables) was other comes = absurd comes
others_leave terms state entry idle (End number outcome steps) was other comes = absurd comes
others_leave terms state entry (unplanned s) (End number outcome steps) was other comes = absurd (other comes.0.own)
others_leave terms state entry (planned s e) (End number outcome steps) was other comes = absurd (other comes.0.own)
others_leave terms state entry (serving s e n turn) (End number outcome steps) was other comes = absurd comes
others_leave terms state entry closed (End number outcome steps) was other comes = absurd comes
others_leave terms state entry idle Close was other comes = absurd (other comes)
others_leave terms state entry (unplanned s) Close was other comes = absurd comes
others_leave terms state entry (planned s e) Close was other comes = absurd comes
others_leave terms state entry (serving s e n turn) Close was other comes = absurd comes
others_leave terms state entry closed Close was other comes = absurd comes
others_leave terms state entry phase (Queued number kind at budget) was other comes = refl
others_leave terms state entry phase (Refused number why) was other comes = refl
others_leave terms state entry phase (Served asker number report) was other comes = refl
others_leave terms state entry phase (Taken number) was other comes = refl
others_leave terms state entry phase (Spent number turns) was other comes = refl
others_leave terms state entry phase (Withdrawn number) was other comes = refl
others_leave terms state entry phase (KillSent number kind) was other comes = refl
others_leave terms state entry phase (Waited number steps) was other comes = refl
others_leave terms state entry phase (WaitSpent number steps turns) was other comes = refl
others_leave terms state entry phase (Gone number) was other comes = refl

pub made_by-own : (session : ℕ) (entry : Entry) (rest : List Entry) → entry.actor ≡ session → made_by session (entry ∷ rest) ≡ entry ∷ made_by session rest
made_by-own session entry rest same = grind (arith, nat_tests)

pub made_by-other : (session : ℕ) (entry : Entry) (rest : List Entry) → entry.actor ≢ session → made_by session (entry ∷ rest) ≡ made_by session rest
made_by-other session entry rest other = grind (arith, nat_tests)

pub outline-run : (terms : Terms) (state : State) (journal : List Entry) → Runs terms state journal
    → outline (state_after terms state journal).phase ≡ own_from (outline state.phase) (made_by terms.desk journal)
outline-run terms state [] run = refl
outline-run terms state (entry ∷ rest) run =
    let more : outline (state_after terms (after terms state entry) rest).phase ≡ own_from (outline (after terms state entry).phase) (made_by terms.desk rest) = outline-run terms (after terms state entry) rest run.1 in
    let here : outline (after terms state entry).phase ≡ own_event (outline state.phase) entry entry.event = outline-after terms state entry entry.event in
    let both : outline (state_after terms (after terms state entry) rest).phase ≡ own_from (own_event (outline state.phase) entry entry.event) (made_by terms.desk rest) =
    more ∙ ap (λ was. own_from was (made_by terms.desk rest)) here in
    elim (cases_eq entry.actor terms.desk) [
      | inl same ↦ both ∙ ap (own_from (outline state.phase)) (sym (made_by-own terms.desk entry rest same))
      | inr other ↦ both ∙ ap (λ was. own_from was (made_by terms.desk rest)) (others_leave terms state entry state.phase entry.event (outline state.phase) other run.0)
          ∙ ap (own_from (outline state.phase)) (sym (made_by-other terms.desk entry rest other))
    ]

pub outline_is_own : (terms : Terms) (journal : List Entry) → IsDeskRun terms journal → outline (state_of terms journal).phase ≡ own_from free (made_by terms.desk journal)
outline_is_own terms journal run = outline-run terms start journal run.runs
