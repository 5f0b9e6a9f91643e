use Rattle.std.proofs.Common.{◌≡◌, take}
use Rattle.sa_parser.proofs.lent.Lent.of.Given as goal

abbrev pub invariant-loop-token : goal.invariant-loop-token
invariant-loop-token l = l.lent ≡ take l.token-index l.tokens
