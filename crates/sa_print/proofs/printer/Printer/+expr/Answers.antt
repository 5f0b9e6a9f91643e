use Rattle.std.proofs.Common.{◌-◌, length, take, drop, arith}
use Rattle.std.proofs.lemmas.List.{take_rest}
use Rattle.sa_print.specs.Expression.{canonical_expr}
use Rattle.sa_print.proofs.Lists.{joined_written}
use Rattle.sa_print.proofs.printer.Printer.+expr.Goals as goal

pub exprs-returns-after-loop-next : goal.exprs-returns-after-loop-next
exprs-returns-after-loop-next t c =
    let members = c.args.members.now in
    let written = rw c.in_ok-expr-in-len1-up.ensures at c.loop-next.invariant in
    joined_written canonical_expr c.args.between.now c.args.self.now c.loop-next.self members (take (length members - 1) (drop 1 members)) c.first-item.result c.loop-next.next-index
    (omega arith) c.first-item.is (take_rest members 1) (omega arith) (omega arith) written
