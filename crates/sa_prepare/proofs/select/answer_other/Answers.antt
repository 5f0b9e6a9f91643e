use Rattle.std.proofs.Common.{◌≡◌, subst}
use Rattle.std.specs.Prelude.{Err}
use Rattle.sa_plan.specs.Answer.{MayAnswer}
use Rattle.sa_resolve.specs.Fault.{least}
use Rattle.sa_resolve.specs.Resolved.{faults_of}
use Rattle.sa_prepare.specs.Prepared.{unless_faulty}
use Rattle.sa_prepare.proofs.select.answer_other.Goals as goal

pub returns : goal.returns
returns c =
    subst (λ why. MayAnswer (λ answer. answer ≡ unless_faulty (least (faults_of c.args.tables.now c.args.select.now)) (Err why)) (Err c.fault_or.result))
    c.unsupported.ensures c.fault_or.ensures
