-- When statements end, by the order of turns: a wait once it finds what it waits for, and a killed
-- statement once it sees that it is killed.
use Rattle.std.specs.Prelude.{◌≡◌, ◌≢◌, ⊤, ℕ, ◌+◌, ◌-◌, ◌*◌, ◌<◌, ◌≤◌, List, [], filter, length, All, Any, nat_lt, slice_index_or}
use Rattle.sa_desk.specs.declared.entry.Entry.{Entry}
use Rattle.sa_desk.specs.declared.entry.Event.{Event}
use Rattle.sa_desk.specs.declared.entry.Event.TheVariants.{Spent, KillSent, End}
use Rattle.sa_desk.specs.State.{closed}
use Rattle.sa_desk.specs.Runs.{state_of}
use Rattle.sa_desk.specs.Serving.{begin_turn}
use Rattle.sa_desk.specs.Legal.{Sessions, HasProgram, given_of, journal_at}
use Rattle.sa_desk.specs.program.Course.{Given, Answer, starved, at_first, Course, shows, waits, runs, course_of}
use Rattle.sa_desk.specs.program.Prepares.{Answers}
use Rattle.sa_desk.specs.program.SoFar.{terms_of}
use Rattle.sa_step.specs.Schedule.{AreEach, slot_of, IsCounted, slots}

-- A statement that began in turn b looks in this turn whether it is killed, where it is still on: a
-- run at each of its points, a SHOW between two polls, and a WAIT between two looks.
abbrev pub SeesKills : Course → (b turn : ℕ) → Type 0
SeesKills (runs analyze planned) b turn = b < turn
SeesKills (shows kind desk) b turn = (polls : ℕ) × (1 ≤ polls) × (turn ≡ b + 2 * polls + 1)
SeesKills (waits desk at) b turn = (looks : ℕ) × (1 ≤ looks) × (turn ≡ b + 2 * looks)
SeesKills course b turn = ⊥

-- how many turns after a look that sees a kill its End comes: a SHOW withdraws its request between
abbrev pub soon : Course → ℕ
soon (shows kind desk) = 2
soon course = 1

-- a kill
abbrev pub IsKill : Event → Type 0
IsKill (KillSent number kind) = ⊤
IsKill event = ⊥

-- the end of a request that was polled as often as it lasts
abbrev pub IsSpent : Event → Type 0
IsSpent (Spent number turns) = ⊤
IsSpent event = ⊥

-- The statements of one session, where turns have these slots.
module _ (slot : (session turn : ℕ) → ℕ) (given : Given) where
  -- On the session's own desk this is a kill that came after the Begin in turn b.
  abbrev pub IsKillOf : (b : ℕ) → Entry → Type 0
  IsKillOf b was = IsKill was.event × (slot given.session b < slot_of slot was)

  -- A statement that began in turn b and ended in turn `last` looked for a kill, and then went on,
  -- only before this place.
  abbrev pub GoesOnBefore : Course → (b last place : ℕ) → Type 0
  GoesOnBefore course b last place =
      (turn : ℕ) → SeesKills course b turn → turn + soon course < last
      → slot given.session turn < place

  -- what a turn with this slot finds of a journal
  abbrev pub found_at : (place : ℕ) → List Entry → List Entry
  found_at place journal = filter (λ was. nat_lt (slot_of slot was) place) journal

  module _ (journals : ℕ → List Entry) where
    -- A SHOW whose request was spent by a poll, and not withdrawn, looked for a kill only before
    -- this place.
    abbrev pub SpendsBefore : Course → (b last place : ℕ) → Type 0
    SpendsBefore (shows kind desk) b last place =
        Any (λ was. (was.actor ≡ given.session) × (was.turn + 1 ≡ last) × IsSpent was.event)
        (journals desk)
        → (turn : ℕ) → SeesKills (shows kind desk) b turn → turn + 1 < last
        → slot given.session turn < place
    SpendsBefore course b last place = ⊤

    -- A look with this slot finds the desk's session not done, and fewer steps published than so
    -- many.
    abbrev pub FindsFewer : (desk at place : ℕ) → Type 0
    FindsFewer desk at place =
        let terms = terms_of given desk in
        let found = (state_of terms (found_at place (journals desk))).phase in
        (found ≢ closed) × (steps : ℕ) × IsCounted slot terms found place steps × (steps < at)

    -- A wait that began in turn b looks in every other turn after it. No look but the one that is
    -- the last before its End finds what it waits for.
    abbrev pub LooksInVain : Course → (b last : ℕ) → Type 0
    LooksInVain (waits desk at) b last =
        (looks : ℕ) → b + 2 * looks + 2 < last
        → FindsFewer desk at (slot given.session (b + 2 * looks + 1))
    LooksInVain course b last = ⊤

    -- Preparation gave these answers to the session's statements, in their order.
    module _ (answers : List Answer) where
      -- What the statement of this number does. On the settings that stand where it begins depends
      -- only what it says at once.
      abbrev pub course_to : (number : ℕ) → Course
      course_to number =
          course_of given at_first (slice_index_or answers (number - 1) (starved []))

      -- the turn of the Begin that is on after these entries of the session's own desk
      abbrev pub begun_in : List Entry → ℕ
      begun_in before = begin_turn (state_of (terms_of given given.session) before).phase

      abbrev pub IsLooked : List Entry → Entry → Event → Type 0
      IsLooked before entry (End number outcome steps) =
          LooksInVain (course_to number) (begun_in before) entry.turn
      IsLooked before entry event = ⊤

      -- A statement that ends here has ended by its first look that found what it waits for.
      abbrev pub LooksInTime : List Entry → Entry → Type 0
      LooksInTime before entry = IsLooked before entry entry.event

      abbrev pub IsStopped : List Entry → Entry → Event → Type 0
      IsStopped before entry (End number outcome steps) =
          let course = course_to number in
          let b = begun_in before in
          All (λ was. IsKillOf b was → GoesOnBefore course b entry.turn (slot_of slot was)
          × SpendsBefore course b entry.turn (slot_of slot was)) before
      IsStopped before entry event = ⊤

      -- A statement that ends here has ended by its first look after a kill.
      abbrev pub StopsInTime : List Entry → Entry → Type 0
      StopsInTime before entry = IsStopped before entry entry.event

-- A session's statements end in time: its program is that of these answers, and each End on its own
-- desk comes as soon as it must.
pub record KeepsTime (gives : Answers) (sessions : Sessions) (schedule : List ℕ)
    (journals : List (List Entry)) (session : ℕ) : Type 0 where
  pub program : HasProgram gives sessions journals session
  -- a wait ends at its first look that finds the desk's session done, or enough steps published
  pub looks : AreEach
      (LooksInTime (slots sessions schedule) (given_of sessions session) (journal_at journals)
      program.answers)
      [] (journal_at journals session)
  -- a killed statement makes no point, and looks for no kill, after the first that comes after the
  -- kill; it ends in the next turn, or withdraws its request in that turn and then ends
  pub stops : AreEach
      (StopsInTime (slots sessions schedule) (given_of sessions session) (journal_at journals)
      program.answers)
      [] (journal_at journals session)

-- So it is with the statements of all sessions.
abbrev pub InCourse : Answers → Sessions → (schedule : List ℕ) → List (List Entry) → Type 0
InCourse gives sessions schedule journals =
    (session : ℕ) → 1 ≤ session → session ≤ length sessions.texts
    → KeepsTime gives sessions schedule journals session
