use Rattle.sa_legal.proofs.Rows.{rows_are_output}
use Rattle.sa_legal.proofs.law.finished_selects_have_their_rows.Goals as goal

pub returns : goal.returns
returns g c = rows_are_output (g.P.Preparer.answers c.args.prepare.now)
