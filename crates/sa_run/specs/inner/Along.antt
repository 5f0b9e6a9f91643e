-- How a session stands between two of its turns, with a worker that calls a board's desks.
use Rattle.std.specs.Prelude.{◌≡◌, ◌≤◌, length, None}
use Rattle.sa_desk.specs.Legal.{Sessions, given_of}
use Rattle.sa_desk.specs.program.Prepares.{Answers}
use Rattle.sa_board.specs.Board.{BoardState}
use Rattle.sa_board.specs.Pass.{PassState, world_of}
use Rattle.sa_worker.specs.View.{View, done}
use Rattle.sa_worker.specs.Working.{IsWorking}
use Rattle.sa_step.specs.Sessions.{AreSound}

-- The pass is of this board, is that of one of the script's sessions, and has no desk out. The
-- session has come so far, and its worker holds this.
pub record IsAlong (gives : Answers) (script : Sessions) (board : BoardState) (pass : PassState)
    (view : View) : Type 0 where
  pub table : pass.table ≡ board.table
  pub idle : pass.out ≡ 0
  pub home : pass.desk ≡ None
  pub least : 1 ≤ pass.session
  pub most : pass.session ≤ length script.texts
  pub sessions : length board.founded ≡ length script.texts
  pub given : view.given ≡ given_of script pass.session
  pub sound : AreSound gives script
  pub working : IsWorking gives (world_of pass) view

-- The session of the pass has closed.
pub record HasEnded (gives : Answers) (script : Sessions) (board : BoardState)
    (pass : PassState) : Type 0 where
  pub view : View
  pub done_is : view.stage ≡ done
  pub along : IsAlong gives script board pass view
