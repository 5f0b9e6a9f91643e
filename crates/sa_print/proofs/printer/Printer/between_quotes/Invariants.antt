use Rattle.std.proofs.Common.{◌≡◌, ◌++◌, length}
use denote.Text.{Utf8}
use denote.Shadow.{shadow}
use Rattle.sa_print.specs.Quoted.{between_quotes}
use Rattle.sa_print.proofs.printer.Printer.between_quotes.Given as goal

abbrev pub invariant-loop-rest : goal.invariant-loop-rest
invariant-loop-rest l =
    shadow (Utf8 l.rest) × (l.self ++ between_quotes l.quote l.rest ≡ l.fn.self ++ between_quotes l.quote l.text)

abbrev pub decreases-loop-rest : goal.decreases-loop-rest
decreases-loop-rest l = length l.rest
