use Rattle.sa_simplify.proofs.FlattenLoop.{flat_and}
use Rattle.sa_simplify.proofs.flatten.all.Goals as goal

pub returns : goal.returns
returns c =
    flat_and c.args.members c.loop-member.left c.loop-member.flat _ c.in_default.ensures.0 c.loop-member.invariant.0 c.loop-member.invariant.1
    c.and_or_only.ensures
