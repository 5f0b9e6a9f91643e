use Rattle.std.proofs.Common.{◌-◌, length, take, drop, arith}
use Rattle.std.proofs.lemmas.List.{take_rest}
use Rattle.sa_print.proofs.Lists.{tables_written}
use Rattle.sa_print.proofs.printer.Printer.tables.Goals as goal

pub returns-after-loop-next : goal.returns-after-loop-next
returns-after-loop-next c =
    let tables = c.args.tables.now in
    let written = rw c.in_ok-table-in-len1-up.ensures at c.loop-next.invariant in
    tables_written c.args.self.now c.loop-next.self tables (take (length tables - 1) (drop 1 tables)) c.first-item.result c.loop-next.next-index
    (omega arith) c.first-item.is (take_rest tables 1) (omega arith) (omega arith) written
