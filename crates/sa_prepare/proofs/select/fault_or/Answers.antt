use Rattle.std.proofs.Common.{◌≡◌, sym, subst, ap}
use Rattle.std.specs.Prelude.{Err}
use Rattle.sa_plan.specs.Answer.{MayAnswer}
use Rattle.sa_resolve.specs.Fault.{least}
use Rattle.sa_resolve.specs.Resolved.{faults_of}
use Rattle.sa_prepare.specs.Prepared.{unless_faulty}
use Rattle.sa_prepare.proofs.May.{may_as, may_tell}
use Rattle.sa_prepare.proofs.select.fault_or.Goals as goal

pub returns-in-None : goal.returns-in-None
returns-in-None c =
    let tables = c.args.tables.now in
    let select = c.args.select.now in
    may_as (λ answer. answer ≡ unless_faulty (least (faults_of tables select)) (Err c.args.unbuilt)) (Err c.args.unbuilt)
    (sym (ap (λ fault. unless_faulty fault (Err c.args.unbuilt)) c.in-None.ensures))

pub returns-in-Some : goal.returns-in-Some
returns-in-Some c =
    let tables = c.args.tables.now in
    let select = c.args.select.now in
    subst (λ why. MayAnswer (λ answer. answer ≡ unless_faulty (least (faults_of tables select)) (Err c.args.unbuilt)) (Err why)) (sym c.resolve_refusal.ensures)
    (may_tell tables select (Err c.args.unbuilt) c.in-Some.fault c.in-Some.ensures)
