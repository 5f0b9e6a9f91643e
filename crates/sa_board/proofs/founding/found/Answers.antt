use Rattle.std.proofs.Common.{◌≡◌, length, ap, ◌∙◌, arith}
use Rattle.sa_board.proofs.step.Start.{opens}
use Rattle.sa_board.proofs.founding.found.Goals as goal

pub new-made-requires : goal.new-made-requires
new-made-requires c =
    let count : c.len-count.result ≡ length c.args.desks.items = omega (arith, c.len-count.ensures, c.args.desks.ok.0) in
    opens c.args.desks.items c.of-founded.result.value.items c.in_ok-slots.slots.items c.as_slice.result.now c.len-count.result c.requires.new c.requires.least
    (ap (λ desks. desks.items) c.of-founded.ensures)
    c.in_ok-slots.ensures
    (c.as_slice.ensures.value ∙ c.zeros-words.ensures)
    count
