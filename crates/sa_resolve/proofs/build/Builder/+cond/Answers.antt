use Rattle.sa_resolve.specs.Reading.{Reading}
use Rattle.sa_resolve.proofs.walk.Conditions.{cond_as, cond-Among, cond-And, cond-Between, cond-Compare, cond-IsNull, cond-Not, cond-Or, last_made, made_all, made_more}
use Rattle.sa_resolve.proofs.walk.Named.{name_cond}
use Rattle.sa_resolve.proofs.walk.Unconditional.{none_cond}
use Rattle.sa_resolve.proofs.build.Builder.+cond.Goals as goal

pub cond-returns-in_ok-expr-in-Compare-2 : goal.cond-returns-in_ok-expr-in-Compare-2
cond-returns-in_ok-expr-in-Compare-2 t c = λ tables scope listed values sees last.
    cond-Compare tables scope c.args.tree.now c.in-Compare.op c.in-Compare.left c.in-Compare.right _ _ _ _
    c.in-Compare.is c.get.ensures c.get-in-Compare.ensures
    (last_made c.args.self.now.scope c.args.self.now.stage c.get.result.now c.in_ok-expr-in-Compare.field-0
    c.in_ok-expr-in-Compare.ensures tables scope listed sees last)
    (last_made c.args.self.now.scope c.args.self.now.stage c.get-in-Compare.result.now
    c.in_ok-expr-in-Compare-2.field-0 c.in_ok-expr-in-Compare-2.ensures tables scope listed sees last)

pub cond-returns-in-IsNull : goal.cond-returns-in-IsNull
cond-returns-in-IsNull t c = λ tables scope listed values sees last.
    cond_as c.null_test.result _ _ (cond-IsNull tables scope c.args.tree.now c.in-IsNull.value _
    c.in-IsNull.negated c.in-IsNull.is c.get-in-IsNull.ensures)
    (c.null_test.ensures tables scope listed sees last)

pub cond-returns-in-Between : goal.cond-returns-in-Between
cond-returns-in-Between t c = λ tables scope listed values sees last.
    cond_as c.between.result _ _
    (cond-Between tables scope c.args.tree.now c.in-Between.value c.in-Between.low c.in-Between.high _ _ _
    c.in-Between.negated c.in-Between.is
    c.get-in-Between.ensures c.get-in-Between-2.ensures c.get-in-Between-3.ensures)
    (c.between.ensures tables scope listed sees last)

pub cond-returns-in-Among : goal.cond-returns-in-Among
cond-returns-in-Among t c = λ tables scope listed values sees last.
    cond_as c.among.result _ _
    (cond-Among tables scope c.args.tree.now c.in-Among.value _ c.in-Among.list c.in-Among.negated
    c.in-Among.is c.get-in-Among.ensures)
    (c.among.ensures tables scope listed sees last)

pub cond-returns-in_ok-conds-in-And : goal.cond-returns-in_ok-conds-in-And
cond-returns-in_ok-conds-in-And t c = λ tables scope listed values sees last.
    cond-And tables scope c.args.tree.now c.in-And.members c.in_ok-conds-in-And.field-0 c.in-And.is
    (c.in_ok-conds-in-And.ensures tables scope listed values sees last)

pub cond-returns-in_ok-conds-in-Or : goal.cond-returns-in_ok-conds-in-Or
cond-returns-in_ok-conds-in-Or t c = λ tables scope listed values sees last.
    cond-Or tables scope c.args.tree.now c.in-Or.members c.in_ok-conds-in-Or.field-0 c.in-Or.is
    (c.in_ok-conds-in-Or.ensures tables scope listed values sees last)

pub cond-returns-in_ok-x-in-Not : goal.cond-returns-in_ok-x-in-Not
cond-returns-in_ok-x-in-Not t c = λ tables scope listed values sees last.
    cond_as c.negation.result _ _
    (cond-Not tables scope c.args.tree.now c.in-Not.x _ c.in_ok-x-in-Not.x c.in-Not.is c.get-in-Not.ensures
    (c.in_ok-x-in-Not.ensures tables scope listed values sees last))
    c.negation.ensures

pub cond-returns-in_default : goal.cond-returns-in_default
cond-returns-in_default t c = λ tables scope listed values sees last.
    none_cond tables scope (λ place table name. name_cond tables scope listed values place
    c.args.self.now.scope table name sees) c.args.tree.now
    (record {
      known = c.in_default.not-Known;
      compare = c.in_default.not-Compare;
      is_null = c.in_default.not-IsNull;
      between = c.in_default.not-Between;
      among = c.in_default.not-Among;
      and = c.in_default.not-And;
      or = c.in_default.not-Or;
      not = c.in_default.not-Not;
    })

pub conds-loop-member-preserved : goal.conds-loop-member-preserved
conds-loop-member-preserved t c = λ tables scope listed values sees last.
    made_more tables scope (λ (one : Reading). one.cond) c.args.members.now c.as_slice-member-items.result.now
    c.as_slice-member-items.ensures
    c.loop-member.member-index c.loop-member.conds.items
    (c.loop-member.invariant tables scope listed values sees last)
    c.member-item.result c.push.new.self.items c.in_ok-cond.field-0 c.loop-member-test.true c.member-item.is
    (c.in_ok-cond.ensures tables scope listed values sees last) c.in_ok-push.ensures.items

pub conds-returns : goal.conds-returns
conds-returns t c = λ tables scope listed values sees last.
    made_all tables scope (λ (one : Reading). one.cond) c.args.members.now c.as_slice-member-items.result.now
    c.as_slice-member-items.ensures
    c.loop-member.member-index c.loop-member.conds.items
    (c.loop-member.invariant tables scope listed values sees last)
    c.from_vec.result c.from_vec.ensures c.loop-member-test.false
