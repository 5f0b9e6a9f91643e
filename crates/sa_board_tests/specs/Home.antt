-- Sessions of a board between their turns.
use Rattle.std.specs.Prelude.{◌≡◌, ℕ, ◌+◌, ◌<◌, List, length, slice_index_or}
use Rattle.sa_board.specs.Board.{BoardState}
use Rattle.sa_board.specs.Pass.{PassState}

-- The pass is that session's, of this board, and has no desk out.
pub record IsHome (board : BoardState) (session : ℕ) (pass : PassState) : Type 0 where
  pub table : pass.table ≡ board.table
  pub session_is : pass.session ≡ session
  pub idle : pass.out ≡ 0

-- Each session of the board has such a pass.
pub record AreHome (board : BoardState) (passes : List PassState) : Type 0 where
  pub count : length passes ≡ length board.founded
  pub each : (index : ℕ) (default : PassState) → index < length board.founded
      → IsHome board (index + 1) (slice_index_or passes index default)
