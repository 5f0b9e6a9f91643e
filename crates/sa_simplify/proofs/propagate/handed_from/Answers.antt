use Rattle.sa_simplify.proofs.Handing.{no_join}
use Rattle.sa_simplify.proofs.propagate.handed_from.Goals as goal

pub returns-in-None : goal.returns-in-None
returns-in-None c = no_join c.args.conjuncts.now _ c.in-None.ensures
