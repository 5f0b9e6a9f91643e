use Rattle.std.proofs.Common.{◌≡◌, ◌++◌, codes, take}
use Rattle.std.specs.Prelude.{flat_map}
use Rattle.sa_print.specs.Select.{group_text}
use Rattle.sa_print.proofs.printer.Printer.group.Given as goal

abbrev pub invariant-loop-next : goal.invariant-loop-next
invariant-loop-next l = l.self ≡ l.initial.self ++ flat_map (λ next. codes ", " ++ group_text next) (take l.next-index l.rest)
