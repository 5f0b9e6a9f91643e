-- What an actor's entries cost of its share in a desk's journal.
use Rattle.std.specs.Prelude.{ℕ, ◌==◌, List, sum_by, if◌then◌else◌}
use Rattle.sa_desk.specs.declared.entry.Entry.{Entry}
use Rattle.sa_desk.specs.declared.entry.Event.{Event}
use Rattle.sa_desk.specs.declared.entry.Event.TheVariants.{Queued, Served}

-- An entry costs one. A Queued costs two, and so pays for the Served entry that answers it, which
-- costs nothing.
abbrev pub cost : Event → ℕ
cost (Queued number kind at budget) = 2
cost (Served asker number report) = 0
cost event = 1

-- what the actor pays for this entry
abbrev pub cost_to : ℕ → Entry → ℕ
cost_to actor entry = if entry.actor == actor then cost entry.event else 0

-- what the actor's entries cost
abbrev pub charge : ℕ → List Entry → ℕ
charge actor journal = sum_by (cost_to actor) journal
