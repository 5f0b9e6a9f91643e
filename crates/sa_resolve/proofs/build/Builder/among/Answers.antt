use Rattle.sa_resolve.proofs.walk.Conditions.{among_same, cond_as, last_made}
use Rattle.sa_resolve.proofs.build.Builder.among.Goals as goal

pub returns : goal.returns
returns c = λ tables scope listed sees last.
    cond_as c.turned.result _ _
    (among_same c.args.negated _ _ _ _
    (last_made c.args.self.now.scope c.args.self.now.stage c.args.value.now c.in_ok-value.value
    c.in_ok-value.ensures tables scope listed sees last)
    (c.in_ok-list.ensures tables scope listed sees last))
    c.turned.ensures
