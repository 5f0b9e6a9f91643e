use Rattle.sa_simplify.proofs.SimpleLemmas.{simple_typed}
use Rattle.sa_simplify.proofs.law.simple_is_typed.Goals as goal

pub returns : goal.returns
returns c = simple_typed
