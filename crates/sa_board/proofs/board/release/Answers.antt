use Rattle.std.proofs.Common.{length, ap, sym, ◌∙◌, arith}
use Rattle.sa_board.specs.Board.{BoardState}
use Rattle.sa_board.proofs.step.Release.{returns_desk}
use Rattle.sa_board.proofs.board.release.Goals as goal

pub swap-requires : goal.swap-requires
swap-requires c =
    let table = c.board.inside.table.shared in
    let there = c.requires.there in
    let is = c.board.invariant in
    let view = ap (λ (b : BoardState). length b.founded) c.board.view_is in (
      c.requires.seat ∙ sym (ap (λ (b : BoardState). b.table) c.board.view_is),
      omega arith,
      returns_desk table.key.value.items table.table_id.slots c.args.index c.args.seat.now.id c.args.seat.now.me (omega arith) c.requires.returns,
    )
