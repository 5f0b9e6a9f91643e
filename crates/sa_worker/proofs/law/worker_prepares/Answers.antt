use Rattle.sa_worker.proofs.law.worker_prepares.Goals as goal
use Rattle.sa_worker.proofs.working.All.{AreWorking-works}

pub returns : goal.returns
returns g c sessions world views all session least most later sound work =
    AreWorking-works (g.P.Preparer.answers c.args.prepare.now) sessions world views all session least most later sound work
