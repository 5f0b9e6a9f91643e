-- A session whose worker calls the desks of a board with its pass.
use Rattle.std.specs.Prelude.{◌≡◌, length}
use Rattle.sa_desk.specs.program.Prepares.{Answers}
use Rattle.sa_board.specs.Board.{BoardState}
use Rattle.sa_board.specs.Pass.{PassState, world_of}
use Rattle.sa_worker.specs.View.{View}
use Rattle.sa_worker.specs.Keeps.{Keeps}
use Rattle.sa_worker.specs.Sound.{GivesSound}

-- The pass is the session's, of this board, and has no desk out. The worker knows enough for its
-- next call.
pub record IsMember (gives : Answers) (board : BoardState) (pass : PassState)
    (view : View) : Type 0 where
  pub table : pass.table ≡ board.table
  pub idle : pass.out ≡ 0
  pub session : view.given.session ≡ pass.session
  pub sessions : view.given.sessions ≡ length board.founded
  pub sound : GivesSound gives view.given
  pub keeps : Keeps (world_of pass) view
