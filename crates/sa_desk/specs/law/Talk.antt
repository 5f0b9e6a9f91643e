-- How the entries about one session's requests follow one another in a desk's journal.
use Rattle.std.specs.Prelude.{◌≡◌, ℕ, ⊤, ◌==◌, List, [], ◌∷◌, Option, Some, None, filter_map, if◌then◌else◌}
use Rattle.sa_desk.specs.declared.entry.Entry.{Entry}
use Rattle.sa_desk.specs.declared.entry.Event.{Event}
use Rattle.sa_desk.specs.declared.entry.Event.TheVariants.{Queued, Served, Taken, Spent, Withdrawn}

-- What an entry says of a session's request, by the request's number: it was queued, it was
-- answered, its answer was taken, or it left without one.
pub data Word : Type 0 where
  asks : (request : ℕ) → Word
  answers : (request : ℕ) → Word
  takes : (request : ℕ) → Word
  leaves : (request : ℕ) → Word

-- The desk's own session answers; all else the session that asks says itself.
abbrev pub word_by : ℕ → ℕ → Event → Option Word
word_by session actor (Queued number kind at budget) =
    if actor == session then Some (asks number) else None
word_by session actor (Served asker number report) =
    if asker == session then Some (answers number) else None
word_by session actor (Taken number) = if actor == session then Some (takes number) else None
word_by session actor (Spent number turns) = if actor == session then Some (leaves number) else None
word_by session actor (Withdrawn number) = if actor == session then Some (leaves number) else None
word_by session actor event = None

-- what the entries say of the session's requests, in their order
abbrev pub words : ℕ → List Entry → List Word
words session entries = filter_map (λ entry. word_by session entry.actor entry.event) entries

-- A session has no request here, has one that waits, or has one that was answered.
pub data Standing : Type 0 where
  nothing_open : Standing
  waiting : (request : ℕ) → Standing
  answered : (request : ℕ) → Standing

-- From this standing the words come in turn: a request is queued only where none is open. What
-- waits is answered or leaves, what was answered is taken, and each of these is said by the
-- request's own number. Nothing else is said.
abbrev pub IsTalk : Standing → List Word → Type 0
IsTalk standing [] = ⊤
IsTalk nothing_open (asks number ∷ rest) = IsTalk (waiting number) rest
IsTalk (waiting request) (answers number ∷ rest) = (number ≡ request) × IsTalk (answered request) rest
IsTalk (waiting request) (leaves number ∷ rest) = (number ≡ request) × IsTalk nothing_open rest
IsTalk (answered request) (takes number ∷ rest) = (number ≡ request) × IsTalk nothing_open rest
IsTalk standing (word ∷ rest) = ⊥
