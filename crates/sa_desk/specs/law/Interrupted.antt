-- A statement ends Interrupted exactly where it was killed.
use Rattle.std.specs.Prelude.{◌≡◌, ℕ, ◌↔◌, Bool, true, false, List}
use Rattle.std.specs.List.{list_any}
use Rattle.sa_desk.specs.declared.entry.Entry.{Entry}
use Rattle.sa_desk.specs.declared.entry.Event.{Event}
use Rattle.sa_desk.specs.declared.entry.Event.TheVariants.{KillSent}
use Rattle.sa_desk.specs.declared.outcome.Outcome.{Outcome}
use Rattle.sa_desk.specs.declared.outcome.Outcome.TheVariants.{Interrupted}
use Rattle.sa_desk.specs.State.{Terms}
use Rattle.sa_desk.specs.law.On.{IsOn}

-- whether a kill, of either kind, was sent
abbrev pub is_kill : Event → Bool
is_kill (KillSent number kind) = true
is_kill event = false

-- whether a kill stands in these entries
abbrev pub has_kill : List Entry → Bool
has_kill entries = list_any (λ entry. is_kill entry.event) entries

-- The End that comes after these entries is of the statement that is on, and is Interrupted exactly
-- where a kill stands in the entries since its Begin.
pub record EndsAsKilled (terms : Terms) (before : List Entry) (number : ℕ)
    (outcome : Outcome) : Type 0 where
  pub on : IsOn terms number before
  pub killed : (outcome ≡ Interrupted) ↔ (has_kill on.since ≡ true)
