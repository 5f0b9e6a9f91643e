use Rattle.std.proofs.Common.{◌++◌, ◌-◌, codes, length, take, drop, arith}
use Rattle.std.proofs.lemmas.List.{take_rest}
use Rattle.sa_print.specs.Select.{order_text}
use Rattle.sa_print.proofs.Lists.{joined_written, clause_written}
use Rattle.sa_print.proofs.printer.Printer.order.Goals as goal

pub returns-after-loop-next : goal.returns-after-loop-next
returns-after-loop-next c =
    let items = c.args.items.now in
    let written = rw (c.in_ok-order_item-in-len1-up.ensures, c.in_ok-push-in-len1-up.ensures) at c.loop-next.invariant in
    clause_written order_text (codes " ORDER BY ") c.args.self.now c.loop-next.self items (omega arith)
    (joined_written order_text (codes ", ") (c.args.self.now ++ codes " ORDER BY ") c.loop-next.self items (take (length items - 1) (drop 1 items)) c.first-item.result c.loop-next.next-index
    (omega arith) c.first-item.is (take_rest items 1) (omega arith) (omega arith) written)
