use Rattle.std.proofs.Common.{◌+◌, length, ap, sym, subst, ◌∙◌, arith}
use Rattle.sa_desk.specs.Contents.{Contents}
use Rattle.sa_board.specs.Board.{BoardState}
use Rattle.sa_board.specs.Steps.{Raises}
use Rattle.sa_board.proofs.step.Raise.{raises_length}
use Rattle.sa_board.proofs.board.raise_by.Goals as goal

pub fetch_add-requires : goal.fetch_add-requires
fetch_add-requires g c =
    let table = c.board.inside.table.shared in
    let there = c.requires.there in
    let is = c.board.invariant in
    let view = ap (λ (b : BoardState). length b.founded) c.board.view_is in
    let raises = subst (λ (left : Contents). Raises c.args.index c.args.seat.now.me left c.args.count) c.requires.left c.requires.raises in (
      c.requires.seat ∙ sym (ap (λ (b : BoardState). b.table) c.board.view_is),
      omega arith,
      raises_length table.key.value.items table.table_id.slots (c.board.inside.desks + c.args.index) c.args.index c.args.seat.now.id c.args.count g.C.Left.left c.args.seat.now.me (omega arith) (omega arith) (omega arith) raises,
    )
