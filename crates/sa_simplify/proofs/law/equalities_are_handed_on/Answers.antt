use Rattle.sa_simplify.proofs.Handing.{handed_all-hands}
use Rattle.sa_simplify.proofs.law.equalities_are_handed_on.Goals as goal

pub returns : goal.returns
returns c = handed_all-hands
