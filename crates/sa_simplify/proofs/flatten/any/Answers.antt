use Rattle.sa_simplify.proofs.FlattenLoop.{flat_or}
use Rattle.sa_simplify.proofs.flatten.any.Goals as goal

pub returns : goal.returns
returns c =
    flat_or c.args.members c.loop-member.left c.loop-member.flat _ c.in_default.ensures.0 c.loop-member.invariant.0 c.loop-member.invariant.1
    c.or_or_only.ensures
