-- How a session's entries stand to its program, where its worker holds this.
use Rattle.std.specs.Prelude.{◌≡◌, ℕ, ◌⊎◌, List, [], ◌∷◌, ◌++◌, length, map, All}
use Rattle.std.specs.List.{range_with_len}
use Rattle.sa_desk.specs.declared.entry.Entry.{Entry}
use Rattle.sa_desk.specs.declared.entry.Event.TheVariants.{End}
use Rattle.sa_desk.specs.declared.outcome.Outcome.{Outcome}
use Rattle.sa_desk.specs.declared.outcome.Outcome.TheVariants as outcome
use Rattle.sa_desk.specs.program.Course.{Given, Answer, Settings, at_first, course_of}
use Rattle.sa_desk.specs.program.Between.{Due, Between}
use Rattle.sa_desk.specs.program.Between as due
use Rattle.sa_desk.specs.program.SoFar.{Now, free, opening, within, running, gone, closed, IsOpen, IsRunning, Tail, IsTold, IsSoFar}
use Rattle.sa_desk.specs.program.Statement.{Statements}
use Rattle.sa_worker.specs.View.{Stage, prepares, makes_steps, opens, closes, ends, asks, polls, looks_asking, withdraws, kills, waits, looks_waiting, points, ends_run, done, View}

-- What stands after whole statements, the last of which ended in this turn; these texts are left.
module _ (given : Given) (settings : Settings) (number last : ℕ) (texts : List (List ℕ)) (began : ℕ)
    (answer : Answer) (tail : List Entry) (turn : ℕ) where
  -- A statement without a run is on, with these entries since its Begin, and this is due.
  pub record IsWithin (between : List Entry) (due : Due) : Type 0 where
    pub begin : Entry
    pub tail_is : tail ≡ begin ∷ between
    pub open_is : IsOpen given settings number last texts began answer begin
    pub row : Between given number began (course_of given settings answer) between turn due

  -- Its End comes next, with this outcome where no kill stands: the one that is due, or Interrupted
  -- where a kill was seen.
  pub record IsEnding (journals : ℕ → List Entry) (result : Outcome) : Type 0 where
    pub between : List Entry
    pub due_is : Outcome
    pub within : IsWithin between (due.ends due_is)
    pub is : (result ≡ due_is) ⊎ (result ≡ outcome.Interrupted)
    pub told : IsTold given journals (End number result 0)

  -- A statement with a run is on, of which so many points are made.
  pub record IsRunOn (made : ℕ) : Type 0 where
    pub begin : Entry
    pub between : List Entry
    pub tail_is : tail ≡ begin ∷ between
    pub running_is : IsRunning given settings number last texts began answer made begin between turn

module _ (view : View) (journals : ℕ → List Entry) (last : ℕ) (texts : List (List ℕ))
    (tail : List Entry) where
  abbrev pub Asking : Type 0
  Asking = (first : Entry)
      × IsWithin view.given view.settings view.number last texts view.began view.answer tail
      view.turn (first ∷ []) due.goes_on

  abbrev pub Nothing : Type 0
  Nothing =
      IsWithin view.given view.settings view.number last texts view.began view.answer tail
      view.turn [] due.goes_on

  abbrev pub Running : (made : ℕ) → Type 0
  Running made =
      IsRunOn view.given view.settings view.number last texts view.began view.answer tail view.turn
      made

  -- what stands after them at each stage
  abbrev pub TailAt : Stage → Type 0
  TailAt prepares = (tail ≡ []) × (view.turn ≡ last)
  TailAt opens = (tail ≡ []) × (view.turn ≡ last)
  TailAt closes =
      ((tail ≡ []) × (view.turn ≡ last) × (texts ≡ []))
      ⊎ Tail view.given view.settings view.number last texts gone tail view.turn
  TailAt done = Tail view.given view.settings view.number last texts closed tail view.turn
  TailAt (ends result) =
      IsEnding view.given view.settings view.number last texts view.began view.answer tail view.turn
      journals result
  TailAt (asks kind desk) = Nothing
  TailAt (polls kind desk count) = Asking
  TailAt (looks_asking kind desk count) = Asking
  TailAt (withdraws kind desk count) = Asking
  TailAt (kills kind desk) = Nothing
  TailAt (waits desk at count) = Nothing
  TailAt (looks_waiting desk at count) = Nothing
  TailAt (makes_steps planned made run) = Running made
  TailAt (points planned made run) = Running made
  TailAt (ends_run planned made run given) = Running made

-- The session has made these entries: those of whole statements, to which preparation gave these
-- answers, and then what the stage says. A Shown tells what these journals answered.
pub record FollowsAt (view : View) (stage : Stage) (journals : ℕ → List Entry)
    (answers : List Answer) (mine : List Entry) : Type 0 where
  pub by : All (λ entry. entry.actor ≡ view.given.session) mine
  pub numbered : map (λ entry. entry.seq) mine ≡ range_with_len 1 (length mine)
  pub told : All (λ entry. IsTold view.given journals entry.event) mine
  pub last : ℕ
  pub before : List Entry
  pub tail : List Entry
  pub parts : mine ≡ before ++ tail
  pub taken : List (List ℕ)
  pub texts : List (List ℕ)
  pub texts_are : view.given.texts ≡ taken ++ texts
  pub ended : Statements view.given at_first 1 0 taken answers before view.settings view.number last
  pub tail_is : TailAt view journals last texts tail stage

abbrev pub Follows : View → (journals : ℕ → List Entry) → List Answer → List Entry → Type 0
Follows view = FollowsAt view view.stage

-- the answers to the statements that have ended, after the turn of a stage
abbrev pub ended_with : View → Stage → List Answer → List Answer
ended_with view (ends result) answers = answers ++ view.answer ∷ []
ended_with view (ends_run planned made run given) answers = answers ++ view.answer ∷ []
ended_with view stage answers = answers

-- where the session's program stands at a stage
abbrev pub IsNow : View → Stage → Now → Type 0
IsNow view prepares now = now ≡ free
IsNow view opens now = now ≡ opening view.answer
IsNow view closes now = (now ≡ free) ⊎ (now ≡ gone)
IsNow view done now = now ≡ closed
IsNow view (ends result) now =
    (due_is : Outcome) × (now ≡ within view.began view.answer (due.ends due_is))
    × ((result ≡ due_is) ⊎ (result ≡ outcome.Interrupted))
IsNow view (makes_steps planned made run) now = now ≡ running view.began view.answer made
IsNow view (points planned made run) now = now ≡ running view.began view.answer made
IsNow view (ends_run planned made run given) now = now ≡ running view.began view.answer made
IsNow view stage now = now ≡ within view.began view.answer due.goes_on

-- The session's entries are exactly those of its program so far.
pub record StandsSo (view : View) (stage : Stage) (journals : ℕ → List Entry)
    (answers : List Answer) (mine : List Entry) : Type 0 where
  pub now : Now
  pub now_is : IsNow view stage now
  pub so_far : IsSoFar view.given journals answers mine view.turn now
