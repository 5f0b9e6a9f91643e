use Rattle.std.proofs.Common.{◌≡◌, length, sym, ap, subst, ◌∙◌, arith}
use Rattle.std.proofs.lemmas.List.{take_at}
use Rattle.sa_board.specs.Board.{AreAll}
use Rattle.sa_board_tests.proofs.Founding.{passes-count, are_all}
use Rattle.sa_board_tests.proofs.tests.apart.two_sessions_are_inside_their_desks_at_once.Goals as goal

pub finish-journals-requires : goal.finish-journals-requires
finish-journals-requires g c =
    let board = c.in_ok-board.board in
    let passes = c.begin_apart.new.passes in
    let before = ap length c.in_ok-board.ensures.passes ∙ passes-count board in
    let count : length passes ≡ c.in_ok-board.passes.len = omega (arith, c.begin_apart.ensures.count, before, c.in_ok-board.passes.ok.0) in
    subst (AreAll board) (sym (take_at passes _ c.in_ok-board.passes.len count)) (are_all board passes c.begin_apart.ensures)
