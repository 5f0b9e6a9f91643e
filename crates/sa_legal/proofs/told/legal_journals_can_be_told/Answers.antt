use Rattle.sa_legal.proofs.Telling.{can_be_told}
use Rattle.sa_legal.proofs.told.legal_journals_can_be_told.Goals as goal

pub returns : goal.returns
returns g c = can_be_told (g.P.Preparer.answers c.args.prepare.now)
