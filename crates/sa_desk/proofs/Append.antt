-- A journal grows at its end: what a longer one leaves and costs.
use Rattle.std.proofs.Common.{◌≡◌, ℕ, ◌+◌, List, [], ◌∷◌, ◌++◌, All, refl}
use Rattle.std.proofs.lemmas.List.Sums.{sum_by-append}
use Rattle.std.proofs.lemmas.List.Elements.{All-head, All-tail}
use Rattle.sa_desk.specs.declared.entry.Entry.{Entry}
use Rattle.sa_desk.specs.State.{Terms, State, start}
use Rattle.sa_desk.specs.Comes.{Comes}
use Rattle.sa_desk.specs.After.{after}
use Rattle.sa_desk.specs.Runs.{state_after, Runs, state_of}
use Rattle.sa_desk.specs.Charge.{cost_to, charge}

-- The state after two parts is that after the second, from what the first left.
pub state_after-append : (terms : Terms) (state : State) (xs ys : List Entry) → state_after terms state (xs ++ ys) ≡ state_after terms (state_after terms state xs) ys
state_after-append terms state [] ys = refl
state_after-append terms state (entry ∷ rest) ys = state_after-append terms (after terms state entry) rest ys

-- Two parts run one after the other.
pub Runs-append : (terms : Terms) (state : State) (xs ys : List Entry) → Runs terms state xs → Runs terms (state_after terms state xs) ys → Runs terms state (xs ++ ys)
Runs-append terms state [] ys first second = second
Runs-append terms state (entry ∷ rest) ys first second = (first.0, Runs-append terms (after terms state entry) rest ys first.1 second)

-- The two parts of a run are runs.
pub Runs-parts : (terms : Terms) (state : State) (xs ys : List Entry) → Runs terms state (xs ++ ys) → Runs terms state xs × Runs terms (state_after terms state xs) ys
Runs-parts terms state [] ys run = (tt, run)
Runs-parts terms state (entry ∷ rest) ys run =
    let parts : Runs terms (after terms state entry) rest × Runs terms (state_after terms (after terms state entry) rest) ys = Runs-parts terms (after terms state entry) rest ys run.1 in
    ((run.0, parts.0), parts.1)

-- a journal with more entries at its end
pub state_of-append : (terms : Terms) (journal entries : List Entry) → state_of terms (journal ++ entries) ≡ state_after terms (state_of terms journal) entries
state_of-append terms journal entries = state_after-append terms start journal entries

pub IsDeskRun-append : (terms : Terms) (journal entries : List Entry) → Runs terms start journal → Runs terms (state_of terms journal) entries → Runs terms start (journal ++ entries)
IsDeskRun-append terms journal entries run more = Runs-append terms start journal entries run more

-- a journal with one more entry
pub state_of-push : (terms : Terms) (journal : List Entry) (entry : Entry) → state_of terms (journal ++ entry ∷ []) ≡ after terms (state_of terms journal) entry
state_of-push terms journal entry = state_of-append terms journal (entry ∷ [])

pub IsDeskRun-push : (terms : Terms) (journal : List Entry) (entry : Entry) → Runs terms start journal → Comes terms (state_of terms journal) entry → Runs terms start (journal ++ entry ∷ [])
IsDeskRun-push terms journal entry run comes = IsDeskRun-append terms journal (entry ∷ []) run (comes, tt)

-- what an actor's entries cost in two parts
pub charge-append : (actor : ℕ) (xs ys : List Entry) → charge actor (xs ++ ys) ≡ charge actor xs + charge actor ys
charge-append actor xs ys = sum_by-append (cost_to actor) xs ys

-- What holds of a state, and is kept by each entry that may come, holds of all that a run leaves. Of the entries, it may be
-- known that each is of some kind.
pub kept_along : (terms : Terms) (Kind : Entry → Type 0) (Holds : State → Type 0)
    → ((state : State) (entry : Entry) → Kind entry → Comes terms state entry → Holds state → Holds (after terms state entry))
    → (state : State) (journal : List Entry) → All Kind journal → Runs terms state journal → Holds state → Holds (state_after terms state journal)
kept_along terms Kind Holds keeps state [] all run holds = holds
kept_along terms Kind Holds keeps state (entry ∷ rest) all run holds =
    kept_along terms Kind Holds keeps (after terms state entry) rest (All-tail Kind entry rest all) run.1
    (keeps state entry (All-head Kind entry rest all) run.0 holds)
