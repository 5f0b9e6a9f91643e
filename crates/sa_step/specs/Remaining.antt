-- How far the sessions of a script are from their end.
use Rattle.std.specs.Prelude.{◌≡◌, ℕ, ◌-◌, ◌≤◌, ◌^◌, List, length}
use Rattle.std.specs.List.{sum_by}
use Rattle.sa_worker.specs.View.{View, done}
use Rattle.sa_step.specs.Sessions.{view_in}

-- a number of one of so many sessions
abbrev pub IsSession : (count : ℕ) → ℕ → Type 0
IsSession count session = (1 ≤ session) × (session ≤ count)

-- No session takes 2^64 turns: so many are left of all.
abbrev pub remaining : List View → ℕ
remaining views = sum_by (λ (view : View). 2 ^ 64 - view.turn) views

-- All are done.
abbrev pub AreDone : List View → Type 0
AreDone views =
    (session : ℕ) → 1 ≤ session → session ≤ length views → (view_in views session).stage ≡ done
