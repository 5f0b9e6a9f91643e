use Rattle.sa_load.proofs.Digits.{IsReadUpTo}
use Rattle.sa_load.proofs.number.magnitude.Given as goal

abbrev pub invariant-loop-byte : goal.invariant-loop-byte
invariant-loop-byte l = IsReadUpTo l.byte-index l.digits l.number
