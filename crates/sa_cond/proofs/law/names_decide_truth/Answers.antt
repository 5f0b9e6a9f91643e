use Rattle.sa_cond.proofs.Deciding.{truth_decided}
use Rattle.sa_cond.proofs.law.names_decide_truth.Goals as goal

pub returns : goal.returns
returns c = truth_decided
