use Rattle.sa_legal.proofs.Requests.{requests_answered}
use Rattle.sa_legal.proofs.law.requests_have_one_answer.Goals as goal

pub returns : goal.returns
returns g c = requests_answered (g.P.Preparer.answers c.args.prepare.now)
