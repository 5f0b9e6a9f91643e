-- What the fields of a board say of it.
use Rattle.std.specs.Prelude.{◌≡◌, ◌+◌, ◌≤◌, [], length}
use Rattle.std.specs.Vec.{vec_capacity}
use Rattle.sa_desk.specs.New.{AreNew}
use Rattle.sa_board.specs.declared.board.Board.TheInside.{Inside}
use Rattle.sa_board.specs.Board.{BoardState}

abbrev pub board_of : Inside → BoardState
board_of board = record {
  table = board.table.shared.table_id;
  founded = board.table.shared.key.value.items;
}

-- The table has a slot and two words for each desk.
pub record IsBoard (board : Inside) : Type 0 where
  pub desks : board.desks ≡ length board.table.shared.key.value.items
  pub slots : board.table.shared.table_id.slots ≡ board.desks
  pub words : board.table.shared.table_id.words ≡ board.desks + board.desks
  pub least : 1 ≤ board.desks
  pub most : board.desks ≤ 16
  -- it was founded with new desks, and a list for their journals is there
  pub new : AreNew board.table.shared.key.value.items
  pub unused : board.journals.items ≡ []
  pub room : board.desks ≤ vec_capacity board.journals
