use Rattle.sa_resolve.proofs.LawLemmas.{one_query}
use Rattle.sa_resolve.proofs.law.a_select_has_one_query.Goals as goal

pub returns : goal.returns
returns c = one_query
