use Rattle.std.proofs.Common.{ap, sym, ◌∙◌, ◌∷◌, None}
use Rattle.atomic_table.specs.Table.{rest}
use Rattle.sa_board.specs.Board.{BoardState}
use Rattle.sa_board.proofs.board.bring_home.Goals as goal

pub exchange-requires : goal.exchange-requires
exchange-requires c =
    let away = c.requires.away in
    (c.requires.seat ∙ sym (ap (λ (b : BoardState). b.table) c.board.view_is), (None, away ∙ ap (λ l. (c.args.index, None) ∷ rest l) (sym away)))
