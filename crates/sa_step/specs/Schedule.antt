-- In which order sessions take their turns, and how their entries then stand in the journals.
use Rattle.std.specs.Prelude.{◌≡◌, ⊤, ℕ, ◌+◌, ◌-◌, ◌*◌, ◌<◌, ◌≤◌, ◌==◌, ◌↔◌, ◌⊎◌, List, [], ◌∷◌, ◌++◌, length, All, Any, if◌then◌else◌}
use Rattle.sa_desk.specs.declared.entry.Entry.{Entry}
use Rattle.sa_desk.specs.declared.entry.Event.{Event}
use Rattle.sa_desk.specs.declared.entry.Event.TheVariants.{Queued, Served, Taken, Spent, Withdrawn, Waited, WaitSpent}
use Rattle.sa_desk.specs.State.{Terms, Phase, planned, serving}
use Rattle.sa_desk.specs.Runs.{state_of}
use Rattle.sa_desk.specs.Legal.{Sessions, given_of, journal_at}
use Rattle.sa_desk.specs.program.SoFar.{terms_of}

-- The place of a session's turn, of so many sessions: where the schedule, followed by 1, 2, .. up
-- to the number of sessions, again and again, names the session that often. A session that is done
-- is passed over, so that its turns end there. Turns are counted from 1 on, places from 0 on.
abbrev pub slot : (sessions : ℕ) → List ℕ → (session turn : ℕ) → ℕ
slot sessions [] session turn = (turn - 1) * sessions + (session - 1)
slot sessions (named ∷ rest) session turn =
    if named == session then (if turn == 1 then 0 else slot sessions rest session (turn - 1) + 1)
    else slot sessions rest session turn + 1

-- It is so of each of these entries, by those that stand before it.
abbrev pub AreEach : (List Entry → Entry → Type 0) → (before entries : List Entry) → Type 0
AreEach Is before [] = ⊤
AreEach Is before (entry ∷ rest) = Is before entry × AreEach Is (before ++ entry ∷ []) rest

-- a request of this number
abbrev pub IsRequest : (number : ℕ) → Event → Type 0
IsRequest number (Queued asked kind at budget) = asked ≡ number
IsRequest number event = ⊥

-- the answer to this session's request of this number
abbrev pub IsAnswer : (asker number : ℕ) → Event → Type 0
IsAnswer asker number (Served to request report) = (to ≡ asker) × (request ≡ number)
IsAnswer asker number event = ⊥

-- The entries of a desk, where turns have these slots.
module _ (slot : (session turn : ℕ) → ℕ) where
  -- the slot of the turn in which an entry was made
  abbrev pub slot_of : Entry → ℕ
  slot_of entry = slot entry.actor entry.turn

  -- No entry before it has a later slot.
  abbrev pub ComesLast : List Entry → Entry → Type 0
  ComesLast before entry = All (λ was. slot_of was ≤ slot_of entry) before

  -- Of a session's turns after the turn `begin` exactly the next so many come before a place.
  abbrev pub AreBefore : (session begin place count : ℕ) → Type 0
  AreBefore session begin place count =
      (turn : ℕ) → begin < turn → ((slot session turn < place) ↔ (turn ≤ begin + count))

  -- The answer to the actor's request of this number was made before the entry, and after all
  -- turns of the actor up to two before the entry's. As an asker polls in every other turn, no poll
  -- before the entry came after the answer.
  abbrev pub IsFirst : List Entry → Entry → (number : ℕ) → Type 0
  IsFirst before entry number = Any
      (λ was. IsAnswer entry.actor number was.event × (slot_of was < slot_of entry)
      × ((turn : ℕ) → 1 ≤ turn → turn + 2 ≤ entry.turn → slot entry.actor turn < slot_of was))
      before

  abbrev pub IsPrompt : List Entry → Entry → Event → Type 0
  IsPrompt before entry (Taken number) = IsFirst before entry number
  IsPrompt before entry event = ⊤

  -- An answer is taken by the first poll after it, or by a withdrawal in that poll's place.
  abbrev pub TakesFirst : List Entry → Entry → Type 0
  TakesFirst before entry = IsPrompt before entry entry.event

  module _ (terms : Terms) where
    -- The steps that the desk's own session has published where a turn of this slot finds it: none
    -- where no plan is on, and else a quantum for each turn that it took after the Begin that is
    -- on.
    abbrev pub IsCounted : Phase → (place steps : ℕ) → Type 0
    IsCounted (planned statement execution) place steps =
        (count : ℕ) × AreBefore terms.desk statement.turn place count × (steps ≡ count * terms.quantum)
    IsCounted (serving statement execution number turn) place steps =
        (count : ℕ) × AreBefore terms.desk statement.turn place count × (steps ≡ count * terms.quantum)
    IsCounted phase place steps = steps ≡ 0

    abbrev pub IsNumbered : Phase → (place : ℕ) → Event → Type 0
    IsNumbered phase place (Queued number kind at budget) = IsCounted phase place at
    IsNumbered phase place (Waited number steps) = IsCounted phase place steps
    IsNumbered phase place (WaitSpent number steps turns) = IsCounted phase place steps
    IsNumbered phase place event = ⊤

    -- What a request or a wait finds published is that.
    abbrev pub FindsCounted : List Entry → Entry → Type 0
    FindsCounted before entry = IsNumbered (state_of terms before).phase (slot_of entry) entry.event

    -- The desk's own session takes no turn between two places.
    abbrev pub Rests : (from to : ℕ) → Type 0
    Rests from to = (turn : ℕ) → 1 ≤ turn → (slot terms.desk turn ≤ from) ⊎ (to ≤ slot terms.desk turn)

    -- The actor's request of this number stands before the entry, and since then the desk's own
    -- session has taken no turn.
    abbrev pub IsUnseen : List Entry → Entry → (number : ℕ) → Type 0
    IsUnseen before entry number = Any
        (λ was. (was.actor ≡ entry.actor) × IsRequest number was.event
        × Rests (slot_of was) (slot_of entry)) before

    -- A request that is spent or withdrawn is unseen.
    abbrev pub IsLeft : List Entry → Entry → Event → Type 0
    IsLeft before entry (Spent number turns) = IsUnseen before entry number
    IsLeft before entry (Withdrawn number) = IsUnseen before entry number
    IsLeft before entry event = ⊤

    abbrev pub LeavesUnseen : List Entry → Entry → Type 0
    LeavesUnseen before entry = IsLeft before entry entry.event

-- the slots of a script with a schedule, and the terms of its desks
abbrev pub slots : Sessions → List ℕ → (session turn : ℕ) → ℕ
slots sessions schedule = slot (length sessions.texts) schedule

abbrev pub desk_terms : Sessions → ℕ → Terms
desk_terms sessions desk = terms_of (given_of sessions desk) desk

-- The journals of a script are in the order of a schedule: so they stand, and this they tell.
-- Which look ends a wait, and how soon a killed statement ends, says `InCourse`.
pub record InSchedule (sessions : Sessions) (schedule : List ℕ)
    (journals : List (List Entry)) : Type 0 where
  -- in each journal the slots never fall
  pub rising : (desk : ℕ) → 1 ≤ desk → desk ≤ length journals
      → AreEach (ComesLast (slots sessions schedule)) [] (journal_at journals desk)
  -- each Queued, Waited and WaitSpent tells the number that was published there
  pub counted : (desk : ℕ) → 1 ≤ desk → desk ≤ length journals →
      AreEach (FindsCounted (slots sessions schedule) (desk_terms sessions desk)) []
      (journal_at journals desk)
  -- where a request ends unanswered, the desk's own session has taken no turn since it was queued
  pub unseen : (desk : ℕ) → 1 ≤ desk → desk ≤ length journals →
      AreEach (LeavesUnseen (slots sessions schedule) (desk_terms sessions desk)) []
      (journal_at journals desk)
  -- an answer is taken by the first poll after it
  pub first : (desk : ℕ) → 1 ≤ desk → desk ≤ length journals
      → AreEach (TakesFirst (slots sessions schedule)) [] (journal_at journals desk)
