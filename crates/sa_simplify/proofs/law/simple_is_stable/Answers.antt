use Rattle.sa_simplify.proofs.StableLemmas.{simple_stays}
use Rattle.sa_simplify.proofs.law.simple_is_stable.Goals as goal

pub returns : goal.returns
returns c = simple_stays
