use Rattle.sa_resolve.proofs.LawLemmas.{no_fault}
use Rattle.sa_resolve.proofs.law.a_select_with_a_query_has_no_fault.Goals as goal

pub returns : goal.returns
returns c = no_fault
