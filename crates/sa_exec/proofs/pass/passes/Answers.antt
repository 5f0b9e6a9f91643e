use Rattle.std.proofs.Common.{◌≡◌, ◌<◌, [], ◌∷◌, length, get_or, sym, ap, subst, ◌∙◌, arith}
use Rattle.sa_plan.specs.Lawful.{IsLawfulCond}
use Rattle.sa_query.specs.Choices.{is_true}
use Rattle.sa_exec.proofs.Cells.{chosen_of, cond_is_there, cond_can_be_tested}
use Rattle.sa_exec.proofs.Passing.{one_more, one_fails, all_pass}
use Rattle.sa_exec.proofs.pass.passes.Goals as goal

pub eval-requires-clause-there : goal.eval-requires-clause-there
eval-requires-clause-there c =
    let conditions = c.args.level.now.conditions in
    let here : c.cond-item.result ≡ get_or conditions c.loop-cond.cond-index c.cond-item.result =
    c.cond-item.is ∙ ap (λ members. get_or members c.loop-cond.cond-index c.cond-item.result) c.as_slice-cond-items.ensures in
    let within : c.loop-cond.cond-index < length conditions = omega (arith, ap length c.as_slice-cond-items.ensures) in
    let lawful = c.requires.lawful.conditions c.loop-cond.cond-index c.cond-item.result within in
    let lawful_here = subst (IsLawfulCond c.args.tables.now (c.args.level.now ∷ [])) (sym here) lawful in
    cond_is_there c.args.tables.now c.args.level.now c.args.row c.cond-item.result c.requires.lawful.there c.requires.row lawful_here

pub eval-requires-clause-typed : goal.eval-requires-clause-typed
eval-requires-clause-typed c =
    let conditions = c.args.level.now.conditions in
    let here : c.cond-item.result ≡ get_or conditions c.loop-cond.cond-index c.cond-item.result =
    c.cond-item.is ∙ ap (λ members. get_or members c.loop-cond.cond-index c.cond-item.result) c.as_slice-cond-items.ensures in
    let within : c.loop-cond.cond-index < length conditions = omega (arith, ap length c.as_slice-cond-items.ensures) in
    let lawful = c.requires.lawful.conditions c.loop-cond.cond-index c.cond-item.result within in
    let lawful_here = subst (IsLawfulCond c.args.tables.now (c.args.level.now ∷ [])) (sym here) lawful in
    cond_can_be_tested c.args.tables.now c.args.level.now c.args.row c.cond-item.result c.requires.sound c.requires.lawful.there c.requires.row lawful_here

pub loop-cond-preserved : goal.loop-cond-preserved
loop-cond-preserved c =
    one_more c.args.tables.now c.args.level.now.conditions (chosen_of c.args.level.now c.args.row) c.loop-cond.cond-index c.cond-item.result
    (omega (arith, ap length c.as_slice-cond-items.ensures))
    (c.cond-item.is ∙ ap (λ members. get_or members c.loop-cond.cond-index c.cond-item.result) c.as_slice-cond-items.ensures)
    c.loop-cond.invariant
    (ap is_true (sym c.eval.ensures) ∙ sym c.if-not-is_true.ensures)

pub returns-then-not-is_true : goal.returns-then-not-is_true
returns-then-not-is_true c =
    sym (
    one_fails c.args.tables.now c.args.level.now.conditions (chosen_of c.args.level.now c.args.row) c.loop-cond.cond-index c.cond-item.result
    (omega (arith, ap length c.as_slice-cond-items.ensures))
    (c.cond-item.is ∙ ap (λ members. get_or members c.loop-cond.cond-index c.cond-item.result) c.as_slice-cond-items.ensures)
    (ap is_true (sym c.eval.ensures) ∙ sym c.if-not-is_true.ensures)
    )

pub returns : goal.returns
returns c =
    sym (
    all_pass c.args.tables.now c.args.level.now.conditions (chosen_of c.args.level.now c.args.row) c.loop-cond.cond-index
    (omega (arith, ap length c.as_slice-cond-items.ensures, c.loop-cond-test.false))
    c.loop-cond.invariant
    )
