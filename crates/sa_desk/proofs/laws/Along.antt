-- What holds of a journal's entries so far, and of the state that they leave.
use Rattle.std.proofs.Common.{◌≡◌, List, [], ◌∷◌, ◌++◌, append_assoc, append-nil, sym, subst}
use Rattle.sa_desk.specs.declared.entry.Entry.{Entry}
use Rattle.sa_desk.specs.State.{Terms, State, start}
use Rattle.sa_desk.specs.Comes.{Comes}
use Rattle.sa_desk.specs.After.{after}
use Rattle.sa_desk.specs.Runs.{state_after, Runs, state_of, IsDeskRun}
use Rattle.sa_desk.proofs.Append.{Runs-parts}

-- What each entry that may come keeps is kept along a run.
pub kept_with : (terms : Terms) (Holds : List Entry → State → Type 0)
    → ((before : List Entry) (state : State) (entry : Entry) → Comes terms state entry → Holds before state → Holds (before ++ entry ∷ []) (after terms state entry))
    → (before : List Entry) (state : State) (journal : List Entry) → Runs terms state journal → Holds before state → Holds (before ++ journal) (state_after terms state journal)
kept_with terms Holds keeps before state [] run holds = subst (λ entries. Holds entries state) (sym (append-nil before)) holds
kept_with terms Holds keeps before state (entry ∷ rest) run holds =
    subst (λ entries. Holds entries (state_after terms (after terms state entry) rest)) (append_assoc before (entry ∷ []) rest)
    (kept_with terms Holds keeps (before ++ entry ∷ []) (after terms state entry) rest run.1 (keeps before state entry run.0 holds))

-- Each entry of a run may come after those before it, which are a run too.
pub entry_comes : (terms : Terms) (journal before rest : List Entry) (entry : Entry) → IsDeskRun terms journal → journal ≡ before ++ entry ∷ rest
    → Runs terms start before × Comes terms (state_of terms before) entry
entry_comes terms journal before rest entry run parts =
    let both = Runs-parts terms start before (entry ∷ rest) (subst (Runs terms start) parts run.runs) in
    (both.0, both.1.0)
