use Rattle.std.proofs.Common.{◌≡◌, ◌++◌, take}
use Rattle.std.specs.Prelude.{flat_map}
use Rattle.sa_print.specs.Expression.{canonical_expr}
use Rattle.sa_print.proofs.printer.Printer.+expr.Given as goal

abbrev pub invariant-exprs-loop-next : goal.invariant-exprs-loop-next
invariant-exprs-loop-next l = l.self ≡ l.initial.self ++ flat_map (λ next. l.between ++ canonical_expr next) (take l.next-index l.rest)
