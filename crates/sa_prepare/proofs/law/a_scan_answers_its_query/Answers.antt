use Rattle.sa_prepare.proofs.answers.Scan.{scan_answers}
use Rattle.sa_prepare.proofs.law.a_scan_answers_its_query.Goals as goal

pub returns : goal.returns
returns c = scan_answers c.order_is_total.ensures
