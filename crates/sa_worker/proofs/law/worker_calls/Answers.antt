use Rattle.sa_worker.proofs.law.worker_calls.Goals as goal
use Rattle.sa_worker.proofs.working.All.{AreWorking-turn}

pub returns : goal.returns
returns g c sessions world views all session least most later active call =
    AreWorking-turn (g.P.Preparer.answers c.args.prepare.now) sessions world views all session least most later active call
