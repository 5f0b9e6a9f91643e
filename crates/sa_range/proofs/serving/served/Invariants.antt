use Rattle.sa_range.proofs.Levels.{Serving}
use Rattle.sa_range.proofs.serving.served.Given as goal

abbrev pub invariant-loop-index : goal.invariant-loop-index
invariant-loop-index l = Serving l.filter l.table l.parts l.index l.walks.items
