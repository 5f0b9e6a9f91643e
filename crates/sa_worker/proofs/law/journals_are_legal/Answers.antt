use Rattle.sa_worker.proofs.law.journals_are_legal.Goals as goal
use Rattle.sa_worker.proofs.working.Legal.{are_legal}

pub returns : goal.returns
returns g c sessions plain views is count all finished =
    are_legal plain is (g.P.Preparer.answers c.args.prepare.now) sessions count views all finished
