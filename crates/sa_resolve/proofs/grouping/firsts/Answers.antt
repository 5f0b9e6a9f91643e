use Rattle.std.proofs.Common.{◌∷◌}
use Rattle.sa_resolve.proofs.list.Grouping.{firsts_more}
use Rattle.sa_resolve.proofs.grouping.firsts.Goals as goal

pub loop-one-preserved : goal.loop-one-preserved
loop-one-preserved c =
    let others = c.loop-one.invariant.0 in
    let more = firsts_more c.args.aggregates.items c.loop-one.left.items c.pop.new.self.items others
    c.loop-one.kept.items c.remove_same.new.kept.items
    c.insert.new.self.items c.in-Some.one c.loop-one.invariant.1 c.in-Some.ensures.items
    c.loop-one.invariant.2 c.remove_same.ensures c.in_ok-insert.ensures.items in
    (c.in-Some.one ∷ others, more.0, more.1)
