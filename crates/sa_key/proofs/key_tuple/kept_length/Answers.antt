use Rattle.sa_key.proofs.RangeLemmas.{null_dropped, value_kept}
use Rattle.sa_key.proofs.key_tuple.kept_length.Goals as goal
use Rattle.sa_key.proofs.key_tuple.kept_length.Goals.{in-Null, in_default}

pub loop-index-preserved : goal.loop-index-preserved
loop-index-preserved c =
    elim c.match-values-index.branch [
      | in-Null w ↦ rw w.kept-is (null_dropped c.args.values.now c.loop-index.index c.loop-index.kept _ c.loop-index-test.true w.in-Null.is c.loop-index.invariant)
      | in_default w ↦ rw w.kept-is (value_kept c.args.values.now c.loop-index.index _ c.loop-index-test.true w.in_default.not-Null)
    ]
