use Rattle.sa_resolve.specs.Reading.{Reading}
use Rattle.sa_resolve.proofs.walk.Conditions.{last_made, made_all, made_more}
use Rattle.sa_resolve.proofs.build.Builder.exprs.Goals as goal

pub loop-member-preserved : goal.loop-member-preserved
loop-member-preserved c = λ tables scope listed sees last.
    made_more tables scope (λ (one : Reading). one.expr) c.args.list.now c.as_slice-member-items.result.now
    c.as_slice-member-items.ensures
    c.loop-member.member-index c.loop-member.exprs.items
    (c.loop-member.invariant tables scope listed sees last)
    c.member-item.result c.push.new.self.items c.in_ok-expr.field-0 c.loop-member-test.true c.member-item.is
    (last_made c.args.self.now.scope c.args.self.now.stage c.member-item.result c.in_ok-expr.field-0
    c.in_ok-expr.ensures tables scope listed sees last)
    c.in_ok-push.ensures.items

pub returns : goal.returns
returns c = λ tables scope listed sees last.
    made_all tables scope (λ (one : Reading). one.expr) c.args.list.now c.as_slice-member-items.result.now
    c.as_slice-member-items.ensures
    c.loop-member.member-index c.loop-member.exprs.items
    (c.loop-member.invariant tables scope listed sees last)
    c.from_vec.result c.from_vec.ensures c.loop-member-test.false
