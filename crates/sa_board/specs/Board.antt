-- What a board is, and the passes that come with a new one; cited by the calls of the board.
use Rattle.std.specs.Prelude.{◌≡◌, ℕ, List, [], length, map, None, false, All}
use Rattle.std.specs.List.{range_with_len}
use Rattle.atomic_table.specs.Seated.{TableId}
use Rattle.sa_desk.specs.Contents.{Contents}
use Rattle.sa_board.specs.Pass.{PassState}

pub record BoardState : Type 0 where
  -- the board's table
  pub table : TableId
  -- the desks with which it was founded
  pub founded : List Contents

-- the pass of a session that has made nothing yet
abbrev pub new_pass : BoardState → ℕ → PassState
new_pass board session = record {
  table = board.table;
  session = session;
  met = board.founded;
  mine = [];
  out = 0;
  desk = None;
  called = false;
}

-- a pass for each session, in their order
abbrev pub new_passes : BoardState → List PassState
new_passes board = map (new_pass board) (range_with_len 1 (length board.founded))

-- These are all the passes of a board, in the order of their sessions, and none has a desk out.
pub record AreAll (board : BoardState) (passes : List PassState) : Type 0 where
  pub sessions : map (λ pass. pass.session) passes ≡ range_with_len 1 (length board.founded)
  pub tables : All (λ pass. pass.table ≡ board.table) passes
  pub idle : All (λ pass. pass.out ≡ 0) passes
