use Rattle.sa_worker.proofs.law.workers_begin.Goals as goal
use Rattle.sa_worker.proofs.working.All.{AreWorking-first}

pub returns : goal.returns
returns g c world sessions first suit = AreWorking-first (g.P.Preparer.answers c.args.prepare.now) sessions world first suit
