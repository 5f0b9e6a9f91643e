-- What a worker asks of a preparer.
use Rattle.std.specs.Prelude.{ℕ, List}
use Rattle.sa_desk.specs.program.Course.{Given, Answer}
use Rattle.sa_desk.specs.program.Prepares.{Answers, IsAnswer}
use Rattle.sa_worker.specs.Holds.{IsSoundAnswer}

-- Each plan that it gives can be run, and each step limit is within its bounds.
pub record GivesSound (gives : Answers) (given : Given) : Type 0 where
  pub sound : (text : List ℕ) (answer : Answer) → IsAnswer gives text answer
      → IsSoundAnswer given answer
