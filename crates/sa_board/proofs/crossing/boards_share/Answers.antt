use denote.Param.Send.{sendable, view_sync}
use denote.Param.SendFields.{declared_sync}
use Rattle.sa_board.specs.contracts.board.Board.TheInside as inside
use Rattle.sa_board.proofs.crossing.boards_share.Goals as goal

pub returns : goal.returns
returns c = view_sync inside.the_row _ _ _ _ (declared_sync inside.the_type (c.tables_share.ensures, (search sendable, (c.journals_share.ensures, tt))))
