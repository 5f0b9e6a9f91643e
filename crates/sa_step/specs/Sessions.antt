-- The sessions of a script on one thread, and what is true of them between two turns.
use Rattle.std.specs.Prelude.{◌≡◌, ℕ, ◌-◌, ◌≤◌, List, [], length, map, All, slice_index_or}
use Rattle.std.specs.List.{range_with_len}
use Rattle.sa_desk.specs.Legal.{Sessions, given_of}
use Rattle.sa_desk.specs.Plain.{Plain, world_of}
use Rattle.sa_desk.specs.program.Prepares.{Answers}
use Rattle.sa_worker.specs.View.{View, first_view}
use Rattle.sa_worker.specs.Sound.{GivesSound}
use Rattle.sa_worker.specs.Working.{AreWorking}

-- The script, the desks, and what the workers hold, the first of session 1.
pub record AllSessions : Type 0 where
  pub script : Sessions
  pub plain : Plain
  pub views : List View

-- A script is within its limits.
pub record MayStart (script : Sessions) : Type 0 where
  pub few : length script.texts ≤ 16
  pub short : All (λ texts. length texts ≤ 256) script.texts
  pub least_quantum : 1 ≤ script.quantum
  pub most_quantum : script.quantum ≤ 64
  pub least_turns : 1 ≤ script.turns
  pub most_turns : script.turns ≤ 1_000_000_000

-- Each plan that the preparer gives can be run by any of the sessions, and each step limit is
-- within its bounds.
abbrev pub AreSound : Answers → Sessions → Type 0
AreSound gives script = (session : ℕ) → 1 ≤ session → session ≤ length script.texts
    → GivesSound gives (given_of script session)

-- what the worker of this session holds before the first turn
abbrev pub first_in : Sessions → ℕ → View
first_in script session = first_view (given_of script session)

abbrev pub first_views : Sessions → List View
first_views script = map (first_in script) (range_with_len 1 (length script.texts))

-- what the worker of this session holds
abbrev pub view_in : List View → ℕ → View
view_in views session =
    slice_index_or views (session - 1)
    (first_view
    (record { session = 0; sessions = 0; quantum = 0; turns = 0; tables = []; texts = [] }))

-- There are a desk and a worker for each session, and all have come so far.
pub record AreRunning (gives : Answers) (all : AllSessions) : Type 0 where
  pub sound : AreSound gives all.script
  pub desks : length all.plain.desks ≡ length all.script.texts
  pub workers : length all.views ≡ length all.script.texts
  pub working : AreWorking gives all.script (world_of all.plain) (view_in all.views)
