use Rattle.sa_resolve.proofs.walk.Conditions.{between_same, cond_as, last_made}
use Rattle.sa_resolve.proofs.build.Builder.between.Goals as goal

pub returns : goal.returns
returns c = λ tables scope listed sees last.
    cond_as c.turned.result _ _
    (between_same c.args.negated _ _ _ _ _ _
    (last_made c.args.self.now.scope c.args.self.now.stage c.args.value.now c.in_ok-expr.field-0
    c.in_ok-expr.ensures tables scope listed sees last)
    (last_made c.args.self.now.scope c.args.self.now.stage c.args.low.now c.in_ok-expr-2.field-0
    c.in_ok-expr-2.ensures tables scope listed sees last)
    (last_made c.args.self.now.scope c.args.self.now.stage c.args.high.now c.in_ok-expr-3.field-0
    c.in_ok-expr-3.ensures tables scope listed sees last))
    c.turned.ensures
