-- Which journals a desk may write.
use Rattle.std.specs.Prelude.{◌≡◌, ℕ, ◌≤◌, ⊤, List, [], ◌∷◌}
use Rattle.sa_desk.specs.declared.entry.Entry.{Entry}
use Rattle.sa_desk.specs.State.{Terms, State, start, IsSettled}
use Rattle.sa_desk.specs.Comes.{Comes}
use Rattle.sa_desk.specs.After.{after}

-- the state after these entries
abbrev pub state_after : Terms → State → List Entry → State
state_after terms state [] = state
state_after terms state (entry ∷ rest) = state_after terms (after terms state entry) rest

-- From this state each of these entries may come in its turn.
abbrev pub Runs : Terms → State → List Entry → Type 0
Runs terms state [] = ⊤
Runs terms state (entry ∷ rest) = Comes terms state entry × Runs terms (after terms state entry) rest

-- what a whole journal leaves
abbrev pub state_of : Terms → List Entry → State
state_of terms journal = state_after terms start journal

-- The journal is one that a desk with these terms may have written when nobody calls it: each entry
-- may come where it stands, and nothing that an entry asks of a later one is open.
pub record IsDeskRun (terms : Terms) (journal : List Entry) : Type 0 where
  pub runs : Runs terms start journal
  pub settled : IsSettled (state_of terms journal).phase

-- The entry stands on this desk, and one of so many sessions made it.
pub record IsEntryOf (desk sessions : ℕ) (entry : Entry) : Type 0 where
  pub desk_is : entry.desk ≡ desk
  pub least : 1 ≤ entry.actor
  pub most : entry.actor ≤ sessions
