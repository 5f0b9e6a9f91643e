-- How the sessions stand between two places of a schedule.
use Rattle.std.specs.Prelude.{◌≡◌, ◌≢◌, ℕ, ◌+◌, ◌-◌, ◌*◌, ◌<◌, ◌≤◌, ⊤, List, [], ◌++◌, length, All, Any, nat_lt, if◌then◌else◌}
use Rattle.sa_desk.specs.declared.entry.Entry.{Entry}
use Rattle.sa_desk.specs.declared.entry.Event.{Event}
use Rattle.sa_desk.specs.declared.entry.Event.TheVariants.{End}
use Rattle.sa_desk.specs.declared.request.Reply.{Reply}
use Rattle.sa_desk.specs.declared.request.Request.{Request}
use Rattle.sa_desk.specs.State.{queue_of}
use Rattle.sa_desk.specs.Contents.{Contents, phase, state}
use Rattle.sa_desk.specs.Plain.{Plain, desk_at, world_of}
use Rattle.sa_desk.specs.program.Course.{Given, Answer, at_first, Course, course_of}
use Rattle.sa_desk.specs.program.Prepares.{Answers}
use Rattle.sa_worker.specs.View.{View, Stage, prepares, opens, closes, ends, polls, looks_asking, withdraws, ends_run, done}
use Rattle.sa_worker.specs.Follows.{Follows}
use Rattle.sa_worker.specs.Working.{WereGiven}
use Rattle.sa_step.specs.Sessions.{AllSessions, view_in}
use Rattle.sa_step.specs.Schedule.{slot, AreEach, slot_of, ComesLast, FindsCounted, IsRequest, IsAnswer, LeavesUnseen, TakesFirst}
use Rattle.sa_step.specs.Course.{soon, IsKillOf, GoesOnBefore, SpendsBefore, LooksInVain, LooksInTime, StopsInTime}

-- Before a place: the turns that were taken lie behind it, and so do all entries, which are in order.
pub record IsTimely (slot : (session turn : ℕ) → ℕ) (place : ℕ) (all : AllSessions) : Type 0 where
  pub taken : (session turn : ℕ) → 1 ≤ session → session ≤ length all.views → 1 ≤ turn
      → turn ≤ (view_in all.views session).turn → slot session turn < place
  pub behind : (desk : ℕ) → 1 ≤ desk → desk ≤ length all.plain.desks
      → All (λ entry. slot_of slot entry < place) (desk_at all.plain desk).journal
  pub rising : (desk : ℕ) → 1 ≤ desk → desk ≤ length all.plain.desks
      → AreEach (ComesLast slot) [] (desk_at all.plain desk).journal
  pub counted : (desk : ℕ) → 1 ≤ desk → desk ≤ length all.plain.desks →
      AreEach (FindsCounted slot (desk_at all.plain desk).terms) [] (desk_at all.plain desk).journal

-- The entry is of a request, and all of so many turns of the desk's own session came before it.
abbrev pub IsAsked : (slot : (session turn : ℕ) → ℕ) → (own turns : ℕ) → Request → Entry → Type 0
IsAsked slot own turns request was =
    (was.actor ≡ request.asker) × IsRequest request.request was.event ×
    ((turn : ℕ) → 1 ≤ turn → turn ≤ turns → slot own turn < slot_of slot was)

-- Nobody waits at a desk whose own session took a turn since.
abbrev pub AreAsked : (slot : (session turn : ℕ) → ℕ) → (turns : ℕ) → Contents → Type 0
AreAsked slot turns desk =
    All (λ request. Any (IsAsked slot desk.terms.desk turns request) desk.journal)
    (queue_of (phase desk))

-- How the requests stand.
pub record AreUnseen (slot : (session turn : ℕ) → ℕ) (all : AllSessions) : Type 0 where
  pub asked : (desk : ℕ) → 1 ≤ desk → desk ≤ length all.plain.desks
      → AreAsked slot (view_in all.views desk).turn (desk_at all.plain desk)
  pub unseen : (desk : ℕ) → 1 ≤ desk → desk ≤ length all.plain.desks →
      AreEach (LeavesUnseen slot (desk_at all.plain desk).terms) [] (desk_at all.plain desk).journal

-- how many turns a session that polls had taken at its last poll, or before its request
abbrev pub polled_at : View → Stage → ℕ
polled_at view (polls kind desk count) = view.turn - 1
polled_at view (looks_asking kind desk count) = view.turn
polled_at view (withdraws kind desk count) = view.turn - 1
polled_at view stage = 0

-- The entry is the answer to the asker's request of this number, and so many turns of the asker
-- came before it.
abbrev pub IsLateFor : (slot : (session turn : ℕ) → ℕ) → (asker turns number : ℕ) → Entry → Type 0
IsLateFor slot asker turns number was =
    IsAnswer asker number was.event
    × ((turn : ℕ) → 1 ≤ turn → turn ≤ turns → slot asker turn < slot_of slot was)

-- So it is with each of an asker's answers that aren't taken.
abbrev pub AreLateFor : (slot : (session turn : ℕ) → ℕ) → (asker turns : ℕ) → List Reply
    → List Entry → Type 0
AreLateFor slot asker turns replies journal =
    All (λ reply. reply.asker ≡ asker → Any (IsLateFor slot asker turns reply.request) journal) replies

-- How the answers stand.
pub record AreUntaken (slot : (session turn : ℕ) → ℕ) (all : AllSessions) : Type 0 where
  pub late : (desk asker : ℕ) → 1 ≤ desk → desk ≤ length all.plain.desks
      → 1 ≤ asker → asker ≤ length all.views →
      AreLateFor slot asker
      (polled_at (view_in all.views asker) (view_in all.views asker).stage)
      (state (desk_at all.plain desk)).replies (desk_at all.plain desk).journal
  pub first : (desk : ℕ) → 1 ≤ desk → desk ≤ length all.plain.desks →
      AreEach (TakesFirst slot) [] (desk_at all.plain desk).journal

-- The journals begin with those of the desks, and go on with entries of this place and later ones.
abbrev pub AreLater : (slot : (session turn : ℕ) → ℕ) → (place : ℕ) → Plain → (ℕ → List Entry)
    → Type 0
AreLater slot place plain journals =
    (desk : ℕ) → 1 ≤ desk → desk ≤ length plain.desks → (rest : List Entry)
    × (journals desk ≡ (desk_at plain desk).journal ++ rest)
    × All (λ entry. place ≤ slot_of slot entry) rest

-- what the statement that is on does
abbrev pub course_at : View → Course
course_at view = course_of view.given at_first view.answer

-- The turn in which a statement ends that is on, or ends where its next turn sees a kill. Its looks
-- that lie far enough before it have ended nothing. 0 where none is on.
abbrev pub ends_by : View → Stage → ℕ
ends_by view prepares = 0
ends_by view opens = 0
ends_by view closes = 0
ends_by view done = 0
ends_by view (ends result) = view.turn + 1
ends_by view (ends_run planned made run given) = view.turn + 1
ends_by view (withdraws kind desk count) = view.turn + soon (course_at view)
ends_by view stage = view.turn + 1 + soon (course_at view)

-- What is so where only its End is left.
abbrev pub AtEnd : (Is : Course → (b last : ℕ) → Type 0) → View → Stage → Type 0
AtEnd Is view (ends result) = Is (course_at view) view.began (view.turn + 1)
AtEnd Is view stage = ⊤

module _ (slot : (session turn : ℕ) → ℕ) (given : Given) (journal : List Entry) where
  -- No kill that stands on the session's own desk came before a look after which it went on.
  abbrev pub SeesNone : Course → (b last : ℕ) → Type 0
  SeesNone course b last = All
      (λ was. IsKillOf slot given b was → GoesOnBefore slot given course b last (slot_of slot was))
      journal

  -- The same of a SHOW whose request was spent.
  abbrev pub SpendsNone : (journals : ℕ → List Entry) → Course → (b last : ℕ) → Type 0
  SpendsNone journals course b last = All
      (λ was. IsKillOf slot given b was
      → SpendsBefore slot given journals course b last (slot_of slot was))
      journal

-- An End is of a statement that was answered.
abbrev pub IsAnswered : (answers : List Answer) → Event → Type 0
IsAnswered answers (End number outcome steps) = (1 ≤ number) × (number ≤ length answers)
IsAnswered answers event = ⊤

-- How a session's statements stand, to which these answers were given.
module _ (slot : (session turn : ℕ) → ℕ) (given : Given) (journals : ℕ → List Entry)
    (answers : List Answer) where
  abbrev pub EndsInTime : List Entry → Entry → Type 0
  EndsInTime before entry =
      IsAnswered answers entry.event × LooksInTime slot given journals answers before entry
      × StopsInTime slot given journals answers before entry

-- How the statements of a session stand, whatever comes later, where its worker holds this.
pub record IsInCourse (gives : Answers) (slot : (session turn : ℕ) → ℕ) (place : ℕ) (plain : Plain)
    (given : Given) (view : View) : Type 0 where
  pub answers : List Answer
  pub follows : Follows view ((world_of plain).seen given.session) answers
      ((world_of plain).mine given.session)
  pub were_given : WereGiven gives view view.stage answers
  -- those that have ended
  pub ended : (journals : ℕ → List Entry) → AreLater slot place plain journals →
      AreEach (EndsInTime slot given journals answers) [] (desk_at plain given.session).journal
  -- the one that is on: its looks found nothing, and no kill stood where it looked for one
  pub looks : (journals : ℕ → List Entry) → AreLater slot place plain journals →
      LooksInVain slot given journals (course_at view) view.began (ends_by view view.stage)
  pub stops : (journals : ℕ → List Entry) → AreLater slot place plain journals →
      SeesNone slot given (desk_at plain given.session).journal (course_at view) view.began
      (ends_by view view.stage)
      × AtEnd (SpendsNone slot given (desk_at plain given.session).journal journals) view view.stage

-- How the statements of all sessions stand.
abbrev pub AreInCourse : Answers → (slot : (session turn : ℕ) → ℕ) → (place : ℕ) → AllSessions
    → Type 0
AreInCourse gives slot place all =
    (session : ℕ) → 1 ≤ session → session ≤ length all.views → IsInCourse gives slot place all.plain
    (view_in all.views session).given (view_in all.views session)

-- The turns that are left to a session come so many places later.
abbrev pub GoesOn : (slot rest : (session turn : ℕ) → ℕ) → (place : ℕ) → List View → Type 0
GoesOn slot rest place views =
    (session : ℕ) → 1 ≤ session → session ≤ length views → (view_in views session).stage ≢ done →
    (turn : ℕ) → 1 ≤ turn
    → slot session ((view_in views session).turn + turn) ≡ place + rest session turn

pub record IsOnTime (gives : Answers) (slot rest : (session turn : ℕ) → ℕ) (place : ℕ)
    (all : AllSessions) : Type 0 where
  pub timely : IsTimely slot place all
  pub unseen : AreUnseen slot all
  pub untaken : AreUntaken slot all
  pub in_course : AreInCourse gives slot place all
  pub goes_on : GoesOn slot rest place all.views

-- Before some place, at which rounds begin.
abbrev pub IsInRounds : Answers → (slots : (session turn : ℕ) → ℕ) → AllSessions → Type 0
IsInRounds gives slots all =
    (place : ℕ) × IsOnTime gives slots (slot (length all.views) []) place all

-- how many places later a turn comes in a round of so many sessions, this many of which have had theirs
abbrev pub in_round : (sessions index : ℕ) → (session turn : ℕ) → ℕ
in_round sessions index session turn =
    (if nat_lt index session then turn - 1 else turn) * sessions + (session - 1) - index
