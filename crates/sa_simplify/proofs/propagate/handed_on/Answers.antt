use Rattle.sa_simplify.proofs.Handing.{IsFrom-itself, IsNext-from, next_smaller, next_from, next_hands, ends_from}
use Rattle.sa_simplify.proofs.propagate.handed_on.Goals as goal

pub loop-conjuncts-init : goal.loop-conjuncts-init
loop-conjuncts-init c = (λ whole all. all, IsFrom-itself _)

pub loop-conjuncts-smaller : goal.loop-conjuncts-smaller
loop-conjuncts-smaller c =
    let next = IsNext-from c.loop-conjuncts.conjuncts _ c.in-Some.equality _ c.as_slice.ensures c.in_ok-equality.ensures c.in-Some.is in
    next_smaller c.args.conjuncts c.loop-conjuncts.conjuncts c.push.new.self c.in-Some.equality next c.in_ok-push.ensures.ok c.loop-conjuncts.invariant.1

pub loop-conjuncts-preserved : goal.loop-conjuncts-preserved
loop-conjuncts-preserved c =
    let next = IsNext-from c.loop-conjuncts.conjuncts _ c.in-Some.equality _ c.as_slice.ensures c.in_ok-equality.ensures c.in-Some.is in (
      next_hands c.args.conjuncts c.loop-conjuncts.conjuncts c.push.new.self c.in-Some.equality next c.in_ok-push.ensures.ok c.loop-conjuncts.invariant.0,
      next_from c.args.conjuncts c.loop-conjuncts.conjuncts c.push.new.self c.in-Some.equality next c.in_ok-push.ensures.ok c.loop-conjuncts.invariant.1,
    )

pub returns : goal.returns
returns c =
    ends_from c.args.conjuncts c.loop-conjuncts.conjuncts _ _ c.as_slice.ensures c.in_ok-equality.ensures c.in_default.is c.loop-conjuncts.invariant.0
