use Rattle.sa_script.proofs.Shifts.{moved_more}
use Rattle.sa_script.proofs.reads.moved.Goals as goal

pub loop-token-preserved : goal.loop-token-preserved
loop-token-preserved c = moved_more c.args.by c.loop-token.token-items c.deref_mut-token-items.result.now c.loop-token.token-index c.token-item.result c.loop-token-test.true c.loop-token.invariant
