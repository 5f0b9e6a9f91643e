use Rattle.std.proofs.Common.{◌∙◌}
use Rattle.sa_step.specs.Starts.{share_in}
use Rattle.sa_step.proofs.StartLemmas.{one_more}
use Rattle.sa_step.proofs.Starting.{share_is}
use Rattle.sa_step.proofs.starts.new_shares.Goals as goal

pub loop-place-preserved : goal.loop-place-preserved
loop-place-preserved c =
    c.in_ok-push.ensures.items ∙ one_more (share_in c.args.statements.now c.args.own) c.loop-place.shares.items c.loop-place.place c.new_share.result c.loop-place.invariant
    (share_is c.args.statements.now c.args.own c.loop-place.place c.index-statements-place.result c.len-count.result c.new_share.result c.index-statements-place.is c.loop-place-test.true c.len-count.ensures c.new_share.ensures)
