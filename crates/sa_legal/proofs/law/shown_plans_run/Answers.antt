use Rattle.sa_legal.proofs.Runs.{run_shown}
use Rattle.sa_legal.proofs.law.shown_plans_run.Goals as goal

pub returns : goal.returns
returns g c = run_shown (g.P.Preparer.answers c.args.prepare.now)
