use Rattle.std.proofs.Common.{length, All, sym, subst}
use Rattle.std.specs.List.{range_with_len}
use Rattle.sa_desk.specs.New.{AreNew}
use Rattle.sa_desk.specs.World.{IsFirst}
use Rattle.sa_board.specs.Pass.{PassState, world_of}
use Rattle.sa_board.proofs.First.{are-first}
use Rattle.sa_board.proofs.board.Board.new.Goals as goal

pub returns-clause-first : goal.returns-clause-first
returns-clause-first c =
    let board = c.in_ok-board.board in
    subst (All (λ (pass : PassState). IsFirst (world_of pass))) (sym c.in_ok-passes-2.ensures)
    (are-first board (subst AreNew (sym c.in_ok-board.ensures.board) c.requires.new) (range_with_len 1 (length board.founded)))
