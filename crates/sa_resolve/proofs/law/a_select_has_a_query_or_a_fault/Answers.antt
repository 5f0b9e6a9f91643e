use Rattle.sa_resolve.proofs.LawLemmas.{query_or_fault}
use Rattle.sa_resolve.proofs.law.a_select_has_a_query_or_a_fault.Goals as goal

pub returns : goal.returns
returns c = query_or_fault
