use Rattle.std.proofs.Common.{length, ◌-◌, ◌≡◌, ◌≤◌, drop}
use Rattle.sa_lexer.specs.Opening.{plus, quote_close}
use Rattle.sa_lexer.proofs.opening.quote_close.Given as goal

abbrev pub invariant-loop-place : goal.invariant-loop-place
invariant-loop-place l =
    record {
      within : l.place ≤ length l.bytes;
      same : plus l.place (quote_close l.quote (drop l.place l.bytes)) ≡ quote_close l.quote l.bytes;
    }

abbrev pub decreases-loop-place : goal.decreases-loop-place
decreases-loop-place l = length l.bytes - l.place
