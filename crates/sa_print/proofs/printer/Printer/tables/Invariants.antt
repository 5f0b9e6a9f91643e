use Rattle.std.proofs.Common.{◌≡◌, ◌++◌, take}
use Rattle.std.specs.Prelude.{flat_map}
use Rattle.sa_print.specs.Select.{join_text, table_text}
use Rattle.sa_print.proofs.printer.Printer.tables.Given as goal

abbrev pub invariant-loop-next : goal.invariant-loop-next
invariant-loop-next l = l.self ≡ l.initial.self ++ flat_map (λ table. join_text table.joined ++ table_text table) (take l.next-index l.rest)
