use denote.Enum.Bare.{same_true}
use Rattle.sa_value.specs.contracts.truth.Truth.{the_type}
use Rattle.std.proofs.Common.{rules, ◌≡◌, sym, ◌∙◌, take, fold, length, ◌<◌, arith}
use Rattle.sa_value.specs.declared.truth.CompareOp.TheVariants.{Eq}
use Rattle.sa_value.specs.declared.truth.Truth.{Truth}
use Rattle.sa_value.specs.declared.truth.Truth.TheVariants.{False, True}
use Rattle.sa_value.specs.declared.value.Value.{Value}
use Rattle.sa_value.specs.Compare.{truth_of}
use Rattle.sa_value.specs.Logic.{disjunction}
use Rattle.sa_cond.specs.declared.expr.Expr.{Expr}
use Rattle.sa_cond.specs.Choice.{Choice}
use Rattle.sa_cond.specs.Expression.{expr_value}
use Rattle.sa_cond.proofs.Truths.{in_terms_of, or_next, further, decided, disjunction-True, among-map}
use Rattle.sa_cond.proofs.predicate.among.Goals as goal

pub returns-then-eq : goal.returns-then-eq
returns-then-eq g c =
    let choice : Choice = record { cell = g.R.Cells.cell_of c.args.rows.now; slot = g.R.Cells.slot_of c.args.rows.now } in
    let value : Value = expr_value choice c.args.value.now in
    let test : Expr → Truth = λ member. truth_of Eq value (expr_value choice member) in
    let within : c.loop-member.member-index < length c.args.list.now = omega arith in
    let told : c.or-truth.result ≡ True = same_true the_type (search rules) _ _ (sym c.if-eq.ensures) in
    let next : c.or-truth.result ≡ disjunction (fold (or_next test) False (take c.loop-member.member-index c.args.list.now)) (test c.member-item.result) =
    in_terms_of disjunction c.or-truth.result c.loop-member.truth c.compared_with.result (fold (or_next test) False (take c.loop-member.member-index c.args.list.now)) (test c.member-item.result)
    c.or-truth.ensures c.loop-member.invariant c.compared_with.ensures in
    sym (among-map value (expr_value choice) c.args.list.now
    ∙ decided (or_next test) False c.args.list.now c.loop-member.member-index c.member-item.result within c.member-item.is c.or-truth.result True (λ member. disjunction-True (test member)) next told)

pub loop-member-preserved : goal.loop-member-preserved
loop-member-preserved g c =
    let choice : Choice = record { cell = g.R.Cells.cell_of c.args.rows.now; slot = g.R.Cells.slot_of c.args.rows.now } in
    let value : Value = expr_value choice c.args.value.now in
    let test : Expr → Truth = λ member. truth_of Eq value (expr_value choice member) in
    let within : c.loop-member.member-index < length c.args.list.now = omega arith in
    let next : c.or-truth.result ≡ disjunction (fold (or_next test) False (take c.loop-member.member-index c.args.list.now)) (test c.member-item.result) =
    in_terms_of disjunction c.or-truth.result c.loop-member.truth c.compared_with.result (fold (or_next test) False (take c.loop-member.member-index c.args.list.now)) (test c.member-item.result)
    c.or-truth.ensures c.loop-member.invariant c.compared_with.ensures in
    next ∙ sym (further (or_next test) False c.args.list.now c.loop-member.member-index c.member-item.result within c.member-item.is)
