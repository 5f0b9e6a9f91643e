use Rattle.std.proofs.Common.{◌≡◌, replicate, None}
use Rattle.sa_desk.proofs.desk.parts.no_waits.Given as goal

abbrev pub invariant-loop : goal.invariant-loop
invariant-loop l = l.waits.items ≡ replicate l.counter None
