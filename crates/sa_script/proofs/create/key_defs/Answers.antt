use Rattle.sa_script.proofs.CreateLemmas.{keys_more}
use Rattle.sa_script.proofs.create.key_defs.Goals as goal

pub loop-index-preserved : goal.loop-index-preserved
loop-index-preserved c =
    keys_more c.args.columns.now c.args.keys.now c.loop-index.index c.index-keys-index.result c.loop-index.defs.items _ _
    c.loop-index-test.true c.index-keys-index.is c.loop-index.invariant c.in_ok-key_def.ensures c.in_ok-push.ensures.items
