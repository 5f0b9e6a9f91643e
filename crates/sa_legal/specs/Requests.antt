-- How a session's requests at a desk begin and end.
use Rattle.std.specs.Prelude.{◌≡◌, ℕ, ⊤, ◌<◌, ◌==◌, List, [], ◌∷◌, Option, Some, None, filter_map, if◌then◌else◌}
use Rattle.sa_desk.specs.declared.entry.Entry.{Entry}
use Rattle.sa_desk.specs.declared.entry.Event.{Event}
use Rattle.sa_desk.specs.declared.entry.Event.TheVariants.{Queued, Refused, Served, Taken, Spent, Withdrawn}

-- What an entry says of a session's request, by the number of the session's statement: it was
-- refused, as a kill or a wait may be too; it was queued; the desk answered it; the session took
-- the answer; it was spent, or withdrawn, without one.
pub data Note : Type 0 where
  refuses : (request : ℕ) → Note
  queues : (request : ℕ) → Note
  answers : (request : ℕ) → Note
  takes : (request : ℕ) → Note
  leaves : (request : ℕ) → Note

-- The desk's own session answers. All else the session that asks says itself.
abbrev pub note_by : ℕ → ℕ → Event → Option Note
note_by session actor (Refused number why) = if actor == session then Some (refuses number) else None
note_by session actor (Queued number kind at budget) =
    if actor == session then Some (queues number) else None
note_by session actor (Served asker number report) =
    if asker == session then Some (answers number) else None
note_by session actor (Taken number) = if actor == session then Some (takes number) else None
note_by session actor (Spent number turns) = if actor == session then Some (leaves number) else None
note_by session actor (Withdrawn number) = if actor == session then Some (leaves number) else None
note_by session actor event = None

-- what the entries say of the session's requests, in their order
abbrev pub notes_of : ℕ → List Entry → List Note
notes_of session entries = filter_map (λ entry. note_by session entry.actor entry.event) entries

-- One request after another, each of a later statement than the one before. Each is refused; or
-- queued, answered once and taken; or queued, and leaves without an answer. Nothing else is noted,
-- and none is left open.
abbrev pub AreRequests : (last : ℕ) → List Note → Type 0
AreRequests last [] = ⊤
AreRequests last (refuses request ∷ rest) = (last < request) × AreRequests request rest
AreRequests last (queues request ∷ answers served ∷ takes taken ∷ rest) =
    (last < request) × (served ≡ request) × (taken ≡ request) × AreRequests request rest
AreRequests last (queues request ∷ leaves gone ∷ rest) =
    (last < request) × (gone ≡ request) × AreRequests request rest
AreRequests last notes = ⊥
