use Rattle.std.proofs.Common.{None, refl}
use Rattle.sa_simplify.specs.Propagate.{first_given, handed_by, join_in, fix_in, next_handed}
use Rattle.sa_simplify.proofs.Handing.{found_at, not_at}
use Rattle.sa_simplify.proofs.propagate.first_handed.Goals as goal

pub returns-in-Some : goal.returns-in-Some
unfolding next_handed
returns-in-Some c =
    let all = c.args.conjuncts.now in
    found_at (λ first. first_given (λ second. handed_by all (join_in first) (fix_in second)) all) all c.loop-first.first-index c.first-item.result _ _
    c.loop-first-test.true c.first-item.is c.in-Some.ensures refl c.loop-first.invariant

pub loop-first-preserved : goal.loop-first-preserved
loop-first-preserved c =
    let all = c.args.conjuncts.now in
    not_at (λ first. first_given (λ second. handed_by all (join_in first) (fix_in second)) all) all c.loop-first.first-index c.first-item.result None
    c.loop-first-test.true c.first-item.is c.in_default.ensures refl c.loop-first.invariant
