-- A session waits until another one has published so many steps.
use Rattle.std.specs.Prelude.{◌≡◌, ℕ, ◌+◌, ◌-◌, ◌==◌, ◌&&◌, nat_lt, List, [], ◌∷◌, slice_index_or, slice_set, Option, Some, None, map, if◌then◌else◌}
use Rattle.sa_desk.specs.declared.entry.Entry.{Entry}
use Rattle.sa_desk.specs.declared.entry.Event.{Event}
use Rattle.sa_desk.specs.declared.entry.Event.TheVariants as event
use Rattle.sa_desk.specs.declared.entry.RefusedWhy.TheVariants as why
use Rattle.sa_desk.specs.declared.answer.Looked.{Looked}
use Rattle.sa_desk.specs.declared.answer.Looked.TheVariants.{NoSuchThread, Reached, Spent, NotYet}
use Rattle.sa_desk.specs.declared.request.OpenWait.{OpenWait}
use Rattle.sa_desk.specs.declared.stamp.Stamp.{Stamp}
use Rattle.sa_desk.specs.State.{Phase, closed}
use Rattle.sa_desk.specs.Contents.{Contents, phase, IsCaller, HasRoom, entry_by, with_entries}

-- How often an open wait of this statement for these steps has looked. Another wait counts for nothing.
abbrev pub looks_of : Option OpenWait → (number at : ℕ) → ℕ
looks_of None number at = 0
looks_of (Some wait) number at = if wait.statement == number && wait.at == at then wait.looks else 0

-- The steps are reached where so many are published. Else the look counts, and the last one of the
-- budget ends the wait.
abbrev pub open_answer : (at published looks turns : ℕ) → Looked
open_answer at published looks turns =
    if nat_lt published at then (if looks + 1 == turns then Spent published turns else NotYet)
    else Reached published

abbrev pub look_answer : Phase → (at published looks turns : ℕ) → Looked
look_answer closed at published looks turns = NoSuchThread
look_answer phase at published looks turns = open_answer at published looks turns

abbrev pub look_events : Looked → ℕ → List Event
look_events NoSuchThread number = event.Refused number why.NoSuchThread ∷ []
look_events (Reached steps) number = event.Waited number steps ∷ []
look_events (Spent steps turns) number = event.WaitSpent number steps turns ∷ []
look_events NotYet number = []

-- The wait goes on where it isn't over.
abbrev pub wait_after : Looked → (number at looks : ℕ) → Option OpenWait
wait_after NotYet number at looks = Some (record { statement = number; at = at; looks = looks + 1 })
wait_after looked number at looks = None

module _ (desk : Contents) (stamp : Stamp) (number at : ℕ) where
  -- how often the caller's wait has looked
  abbrev pub looks_before : ℕ
  looks_before = looks_of (slice_index_or desk.waits (stamp.actor - 1) None) number at

  abbrev pub looked : Looked
  looked = look_answer (phase desk) at desk.published looks_before desk.terms.turns

  abbrev pub look_entries : List Entry
  look_entries = map (entry_by desk stamp) (look_events looked number)

  abbrev pub after_look : Contents
  after_look =
      record (with_entries look_entries desk) {
        waits = slice_set desk.waits (stamp.actor - 1)
            (wait_after looked number at looks_before);
      }

-- Any session may wait for any other, for as long as the desk's requests last.
pub record MayLook (desk : Contents) (stamp : Stamp) (number at budget : ℕ) : Type 0 where
  pub caller : IsCaller desk stamp
  pub budget_is : budget ≡ desk.terms.turns
  pub room : HasRoom desk stamp.actor (look_entries desk stamp number at)
