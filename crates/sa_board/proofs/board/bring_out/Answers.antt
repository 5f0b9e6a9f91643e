use Rattle.std.proofs.Common.{ap, sym, ◌∙◌, ◌∷◌, Some}
use Rattle.atomic_table.specs.Table.{rest}
use Rattle.sa_board.specs.Board.{BoardState}
use Rattle.sa_board.proofs.board.bring_out.Goals as goal

pub exchange-requires : goal.exchange-requires
exchange-requires c =
    let desk = c.requires.desk in
    (c.requires.seat ∙ sym (ap (λ (b : BoardState). b.table) c.board.view_is), (Some desk.0, desk.1 ∙ ap (λ l. (c.args.index, Some desk.0) ∷ rest l) (sym desk.1)))
