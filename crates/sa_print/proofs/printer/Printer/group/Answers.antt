use Rattle.std.proofs.Common.{◌++◌, ◌-◌, codes, length, take, drop, arith}
use Rattle.std.proofs.lemmas.List.{take_rest}
use Rattle.sa_print.specs.Select.{group_text}
use Rattle.sa_print.proofs.Lists.{joined_written, clause_written}
use Rattle.sa_print.proofs.printer.Printer.group.Goals as goal

pub returns-after-loop-next : goal.returns-after-loop-next
returns-after-loop-next c =
    let items = c.args.items.now in
    let written = rw (c.in_ok-expr-in-len1-up.ensures, c.in_ok-push-in-len1-up.ensures) at c.loop-next.invariant in
    clause_written group_text (codes " GROUP BY ") c.args.self.now c.loop-next.self items (omega arith)
    (joined_written group_text (codes ", ") (c.args.self.now ++ codes " GROUP BY ") c.loop-next.self items (take (length items - 1) (drop 1 items)) c.first-item.result c.loop-next.next-index
    (omega arith) c.first-item.is (take_rest items 1) (omega arith) (omega arith) written)
