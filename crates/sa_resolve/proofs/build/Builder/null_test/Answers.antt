use Rattle.sa_resolve.proofs.walk.Conditions.{last_made, negated_made, positive_made}
use Rattle.sa_resolve.proofs.build.Builder.null_test.Goals as goal
use Rattle.sa_resolve.proofs.build.Builder.null_test.Goals.{then-negated, else-negated}

pub returns : goal.returns
returns c = λ tables scope listed sees last.
    let value = last_made c.args.self.now.scope c.args.self.now.stage c.args.value.now c.in_ok-value.value
    c.in_ok-value.ensures tables scope listed sees last in
    elim c.if-negated.branch [
      | then-negated w ↦ negated_made c.args.negated _ _ _ w.if-negated.true w.result-is value
      | else-negated w ↦ positive_made c.args.negated _ _ _ w.if-negated.false w.result-is value
    ]
