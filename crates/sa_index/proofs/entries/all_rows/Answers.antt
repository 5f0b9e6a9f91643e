use Rattle.std.proofs.Common.{◌∙◌}
use Rattle.sa_index.proofs.RangeLemmas.{range-more}
use Rattle.sa_index.proofs.entries.all_rows.Goals as goal

pub loop-row-preserved : goal.loop-row-preserved
loop-row-preserved c = c.in_ok-push.ensures.items ∙ range-more _ c.loop-row.row c.loop-row.invariant
