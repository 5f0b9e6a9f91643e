use Rattle.std.proofs.Common.{◌≡◌, replicate}
use Rattle.sa_desk.proofs.desk.parts.no_polls.Given as goal

abbrev pub invariant-loop : goal.invariant-loop
invariant-loop l = l.polls.items ≡ replicate l.counter 0
