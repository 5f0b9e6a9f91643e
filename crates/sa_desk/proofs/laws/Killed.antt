-- A statement ends Interrupted exactly where it was killed.
use Rattle.std.proofs.Common.{◌≡◌, ◌↔◌, ℕ, true, List, ◌∷◌, ◌++◌, sym, subst}
use Rattle.sa_desk.specs.declared.entry.Entry.{Entry}
use Rattle.sa_desk.specs.declared.entry.Event.TheVariants.{End}
use Rattle.sa_desk.specs.declared.outcome.Outcome.{Outcome}
use Rattle.sa_desk.specs.declared.outcome.Outcome.TheVariants.{Interrupted}
use Rattle.sa_desk.specs.State.{Terms, Statement, Phase, unplanned, planned, State}
use Rattle.sa_desk.specs.Comes.{ComesIn, Ends}
use Rattle.sa_desk.specs.Runs.{state_of, IsDeskRun}
use Rattle.sa_desk.specs.law.Interrupted.{EndsAsKilled}
use Rattle.sa_desk.proofs.laws.Along.{entry_comes}
use Rattle.sa_desk.proofs.laws.On.{Tells, TellsIn, Tells-run}

ended : (terms : Terms) (before : List Entry) (statement : Statement) (entry : Entry) (number : ℕ) (outcome : Outcome)
    → Ends terms statement entry number (outcome ≡ Interrupted) → Tells terms before statement → EndsAsKilled terms before number outcome
ended terms before statement entry number outcome ends tells =
    subst (λ n. EndsAsKilled terms before n outcome) (sym ends.on)
    (record { on = tells.on; killed = subst (λ kill. (outcome ≡ Interrupted) ↔ (kill ≡ true)) tells.killed ends.killed })

ended_in : (terms : Terms) (before : List Entry) (state : State) (entry : Entry) (number : ℕ) (outcome : Outcome) (steps : ℕ) (phase : Phase)
    → ComesIn terms state entry phase (End number outcome steps) → TellsIn terms before phase → EndsAsKilled terms before number outcome
ended_in terms before state entry number outcome steps (unplanned statement) comes tells = ended terms before statement entry number outcome comes.0 tells
ended_in terms before state entry number outcome steps (planned statement execution) comes tells =
    ended terms before statement entry number outcome comes.0 tells.statement_is
ended_in terms before state entry number outcome steps phase comes tells = absurd comes

pub ends_as_killed : (terms : Terms) (journal before rest : List Entry) (entry : Entry) (number steps : ℕ) (outcome : Outcome) →
    IsDeskRun terms journal → journal ≡ before ++ entry ∷ rest → entry.event ≡ End number outcome steps → EndsAsKilled terms before number outcome
ends_as_killed terms journal before rest entry number steps outcome run parts is =
    let comes = entry_comes terms journal before rest entry run parts in
    let now : State = state_of terms before in
    ended_in terms before now entry number outcome steps now.phase (subst (ComesIn terms now entry now.phase) is comes.1) (Tells-run terms before comes.0)
