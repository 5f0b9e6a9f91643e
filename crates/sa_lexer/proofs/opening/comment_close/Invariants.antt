use Rattle.std.proofs.Common.{◌≡◌, drop}
use Rattle.sa_lexer.specs.Opening.{plus, comment_close}
use Rattle.sa_lexer.proofs.opening.comment_close.Given as goal

abbrev pub invariant-loop-place : goal.invariant-loop-place
invariant-loop-place l = plus l.place (comment_close (drop l.place l.bytes)) ≡ comment_close l.bytes
