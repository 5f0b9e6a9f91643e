use Rattle.sa_simplify.proofs.PropagateLemmas.{propagated_and}
use Rattle.sa_simplify.proofs.propagate.propagated.Goals as goal

pub returns-in_ok-handed_on-in-And : goal.returns-in_ok-handed_on-in-And
returns-in_ok-handed_on-in-And c = propagated_and c.args.cond c.in-And.conjuncts _ c.in-And.is c.in_ok-handed_on-in-And.ensures
