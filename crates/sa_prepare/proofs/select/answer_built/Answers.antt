use Rattle.std.proofs.Common.{◌≡◌, sym, subst}
use Rattle.std.specs.Prelude.{None, Ok, Err}
use Rattle.sa_plan.specs.Answer.{MayAnswer}
use Rattle.sa_prepare.specs.Prepared.{planned_or_unsupported}
use Rattle.sa_prepare.specs.inner.Refused.{built_answer}
use Rattle.sa_prepare.proofs.May.{may_run, may_tell}
use Rattle.sa_prepare.proofs.select.answer_built.Goals as goal

pub ready_with-requires-clause-plan : goal.ready_with-requires-clause-plan
ready_with-requires-clause-plan c = c.requires.plan c.in-Ok.query c.in-Ok.ensures.query

pub returns-in-Ok-ready_with : goal.returns-in-Ok-ready_with
returns-in-Ok-ready_with c =
    may_run c.args.tables.now c.args.statement.now c.args.select.now c.in-Ok.query c.in-Ok.ensures.query (Ok c.in-Ok-ready_with.prepared) c.in-Ok-ready_with.ensures

pub returns-in-Err : goal.returns-in-Err
returns-in-Err c =
    let tables = c.args.tables.now in
    let statement = c.args.statement.now in
    let select = c.args.select.now in
    subst (λ why. MayAnswer (λ answer. answer ≡ built_answer tables statement select) (Err why)) (sym c.resolve_refusal.ensures)
    (may_tell tables select (planned_or_unsupported tables statement select None) c.in-Err.fault c.in-Err.ensures.fault)
