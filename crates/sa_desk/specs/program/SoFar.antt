-- Which entries a session makes over all desks, and what of them is done after a turn.
use Rattle.std.specs.Prelude.{◌≡◌, ◌≢◌, ℕ, ◌+◌, ⊤, List, [], ◌∷◌, ◌++◌, length, map, All}
use Rattle.std.specs.List.{range_with_len}
use Rattle.sa_plan.specs.declared.plan.Planned.{Planned}
use Rattle.sa_desk.specs.declared.entry.Entry.{Entry}
use Rattle.sa_desk.specs.declared.entry.Event.{Event}
use Rattle.sa_desk.specs.declared.entry.Event.TheVariants.{End, Gone, Close}
use Rattle.sa_desk.specs.declared.outcome.Outcome.TheVariants as outcome
use Rattle.sa_desk.specs.State.{Terms}
use Rattle.sa_desk.specs.law.Answered.{IsAnswered}
use Rattle.sa_desk.specs.program.Course.{Given, Answer, text_of, Settings, at_first, Course, runs, course_of}
use Rattle.sa_desk.specs.program.Between.{Due, Between}
use Rattle.sa_desk.specs.program.RunEnds.{RunsOn}
use Rattle.sa_desk.specs.program.Statement.{IsOwnEntry, BeginsAs, AreServed, Statements}

-- Where a session stands after a turn.
pub data Now : Type 0 where
  -- the next turn begins a statement, or closes; nothing is prepared, or a statement is
  free : Now
  opening : (answer : Answer) → Now
  -- a statement without a run is on, or one with a run that has made so many points
  within : (b : ℕ) (answer : Answer) (due : Due) → Now
  running : (b : ℕ) (answer : Answer) (points : ℕ) → Now
  -- a KILL CONNECTION kept a statement from beginning; the session is done
  gone : Now
  closed : Now

abbrev pub IsGone : ℕ → Event → Type 0
IsGone number (Gone own) = own ≡ number
IsGone number event = ⊥

abbrev pub Runs : Course → Planned → Type 0
Runs (runs analyze planned) made = made ≡ planned
Runs course made = ⊥

-- What stands after whole statements, the last of which ended in this turn; these texts are left,
-- the first of which has this number.
module _ (given : Given) (settings : Settings) (number last : ℕ) (texts : List (List ℕ)) where
  -- A statement is on, with this Begin.
  pub record IsOpen (b : ℕ) (answer : Answer) (begin : Entry) : Type 0 where
    pub text : List ℕ
    pub rest : List (List ℕ)
    pub texts_are : texts ≡ text ∷ rest
    pub follows : b ≡ last + 1
    pub own : IsOwnEntry given b begin
    pub begins : BeginsAs given (course_of given settings answer) number
        (text_of text answer) begin.event

  -- It runs a plan, of which so many points are made.
  pub record IsRunning (b : ℕ) (answer : Answer) (points : ℕ) (begin : Entry) (between : List Entry)
      (t : ℕ) : Type 0 where
    pub open_is : IsOpen b answer begin
    pub planned : Planned
    pub course : Runs (course_of given settings answer) planned
    pub turn : t ≡ b + points
    pub served : AreServed given.session b t between
    pub runs_on : RunsOn given settings.limit number b planned points

  abbrev pub Tail : Now → List Entry → (t : ℕ) → Type 0
  Tail free [] t = t ≡ last
  Tail (opening answer) [] t = t ≡ last
  Tail (within b answer due) (begin ∷ between) t =
      IsOpen b answer begin × Between given number b (course_of given settings answer) between t due
  Tail (running b answer points) (begin ∷ between) t = IsRunning b answer points begin between t
  Tail gone (entry ∷ []) t =
      (texts ≢ []) × (t ≡ last + 1) × IsOwnEntry given t entry × IsGone number entry.event
  Tail closed (entry ∷ []) t =
      (texts ≡ []) × (t ≡ last + 1) × IsOwnEntry given t entry × (entry.event ≡ Close)
  Tail closed (entry ∷ close ∷ []) t =
      (texts ≢ []) × (t ≡ last + 2) × IsOwnEntry given (last + 1) entry × IsGone number entry.event ×
      IsOwnEntry given t close × (close.event ≡ Close)
  Tail now entries t = ⊥

-- the terms of a desk
abbrev pub terms_of : Given → (desk : ℕ) → Terms
terms_of given desk = record { desk = desk; quantum = given.quantum; turns = given.turns }

-- A Shown tells what the journal of that desk answered.
abbrev pub IsTold : Given → (journals : ℕ → List Entry) → Event → Type 0
IsTold given journals (End number (outcome.Shown kind desk begin report) steps) =
    IsAnswered (terms_of given desk) (journals desk) given.session number report begin
IsTold given journals event = ⊤

-- After turn t a session has made exactly these entries, where preparation gave these answers to
-- the statements that have ended.
pub record IsSoFar (given : Given) (journals : ℕ → List Entry) (answers : List Answer)
    (mine : List Entry) (t : ℕ) (now : Now) : Type 0 where
  pub by : All (λ entry. entry.actor ≡ given.session) mine
  pub numbered : map (λ entry. entry.seq) mine ≡ range_with_len 1 (length mine)
  pub told : All (λ entry. IsTold given journals entry.event) mine
  pub settings : Settings
  pub last : ℕ
  pub done : List Entry
  pub tail : List Entry
  pub parts : mine ≡ done ++ tail
  pub taken : List (List ℕ)
  pub texts : List (List ℕ)
  pub texts_are : given.texts ≡ taken ++ texts
  pub number : ℕ
  pub ended : Statements given at_first 1 0 taken answers done settings number last
  pub tail_is : Tail given settings number last texts now tail t

-- A session's whole program.
abbrev pub IsProgram : Given → (ℕ → List Entry) → List Answer → List Entry → Type 0
IsProgram given journals answers mine = (t : ℕ) × IsSoFar given journals answers mine t closed
