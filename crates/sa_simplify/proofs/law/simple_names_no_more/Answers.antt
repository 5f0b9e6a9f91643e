use Rattle.sa_simplify.proofs.SimpleLemmas.{simple_named}
use Rattle.sa_simplify.proofs.law.simple_names_no_more.Goals as goal

pub returns : goal.returns
returns c = simple_named
