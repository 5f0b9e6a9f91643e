-- A kill stands on: no entry of another session takes it away.
use Rattle.std.proofs.Common.{◌≡◌, ◌≢◌, true, List, ◌++◌, All, refl, sym, subst, rules}
use Rattle.sa_desk.specs.declared.entry.Entry.{Entry}
use Rattle.sa_desk.specs.declared.entry.Event.{Event}
use Rattle.sa_desk.specs.declared.entry.Event.TheVariants.{KillSent, Waited}
use Rattle.sa_desk.specs.State.{Terms, State, Phase, unplanned, planned, start}
use Rattle.sa_desk.specs.Comes.{ComesIn}
use Rattle.sa_desk.specs.After.{after_event, killed, showing}
use Rattle.sa_desk.specs.Runs.{state_of, IsDeskRun}
use Rattle.sa_desk.specs.Serving.{is_killed}
use Rattle.sa_desk.proofs.Append.{Runs-parts, state_of-append, kept_along}

stands_in : (terms : Terms) (state : State) (entry : Entry) (phase : Phase) (event : Event) → entry.actor ≢ terms.desk → phase ≡ state.phase
    → ComesIn terms state entry phase event → is_killed phase ≡ true → is_killed (after_event terms state entry event).phase ≡ true
stands_in terms state entry (unplanned s) (KillSent number kind) other same comes stands = subst (λ phase. is_killed (killed phase) ≡ true) same refl
stands_in terms state entry (planned s e) (KillSent number kind) other same comes stands = subst (λ phase. is_killed (killed phase) ≡ true) same refl
stands_in terms state entry (unplanned s) (Waited number steps) other same comes stands = subst (λ phase. is_killed (showing phase steps) ≡ true) same stands
stands_in terms state entry (planned s e) (Waited number steps) other same comes stands = subst (λ phase. is_killed (showing phase steps) ≡ true) same stands
stands_in terms state entry phase event other same comes stands = search rules

pub kill_stands_on : (terms : Terms) (journal others : List Entry) → IsDeskRun terms (journal ++ others) → All (λ entry. entry.actor ≢ terms.desk) others
    → is_killed (state_of terms journal).phase ≡ true → is_killed (state_of terms (journal ++ others)).phase ≡ true
kill_stands_on terms journal others run of_others stands =
    let parts = Runs-parts terms start journal others run.runs in
    subst (λ state. is_killed state.phase ≡ true) (sym (state_of-append terms journal others))
    (kept_along terms (λ entry. entry.actor ≢ terms.desk) (λ state. is_killed state.phase ≡ true)
    (λ state entry other comes killed. stands_in terms state entry state.phase entry.event other refl comes killed)
    (state_of terms journal) others of_others parts.1 stands)
