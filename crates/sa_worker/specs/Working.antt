-- What is true of a session and its worker between two turns, and of all sessions of a script.
use Rattle.std.specs.Prelude.{◌≡◌, ⊤, ℕ, ◌≤◌, ◌==◌, List, length, if◌then◌else◌}
use Rattle.sa_desk.specs.World.{World}
use Rattle.sa_desk.specs.Legal.{Sessions, given_of}
use Rattle.sa_desk.specs.program.Course.{Answer}
use Rattle.sa_desk.specs.program.Prepares.{Answers, IsAnswer, AreAnswers}
use Rattle.sa_worker.specs.View.{Stage, prepares, closes, done, View, text_at}
use Rattle.sa_worker.specs.Keeps.{Keeps}
use Rattle.sa_worker.specs.Follows.{Follows}

-- A statement is prepared, or on.
abbrev pub HasAnswer : Stage → Type 0
HasAnswer prepares = ⊥
HasAnswer closes = ⊥
HasAnswer done = ⊥
HasAnswer stage = ⊤

-- What preparation gave: an answer to each statement that has ended, and one to that which is
-- prepared or on.
pub record WereGiven (gives : Answers) (view : View) (stage : Stage)
    (answers : List Answer) : Type 0 where
  pub ended : AreAnswers gives view.given.texts answers
  pub next : HasAnswer stage → IsAnswer gives (text_at view) view.answer

-- A session has come so far, and its worker holds this.
pub record IsWorking (gives : Answers) (world : World) (view : View) : Type 0 where
  pub keeps : Keeps world view
  pub answers : List Answer
  pub follows : Follows view (world.seen view.given.session) answers (world.mine view.given.session)
  pub given : WereGiven gives view view.stage answers

-- All sessions have come so far, and their workers hold these.
pub record AreWorking (gives : Answers) (sessions : Sessions) (world : World)
    (views : ℕ → View) : Type 0 where
  pub given : (session : ℕ) → 1 ≤ session → session ≤ length sessions.texts
      → (views session).given ≡ given_of sessions session
  pub working : (session : ℕ) → 1 ≤ session → session ≤ length sessions.texts
      → IsWorking gives world (views session)

-- One of them holds another view.
abbrev pub with_view : (ℕ → View) → (session : ℕ) → View → ℕ → View
with_view views session view other = if other == session then view else views other
