use Rattle.sa_resolve.proofs.fit.Proved.{well_typed}
use Rattle.sa_resolve.proofs.law.the_query_of_a_select_is_well_typed.Goals as goal

pub returns : goal.returns
returns c = λ tables tree query proper is. well_typed tables tree query is proper
