use Rattle.sa_resolve.proofs.names.Sights.{columns_to-push}
use Rattle.sa_resolve.proofs.sight.put_columns.Goals as goal

pub loop-index-preserved : goal.loop-index-preserved
loop-index-preserved c =
    columns_to-push c.args.columns.now.items c.args.table c.loop-index.index c.in_ok-small.field-0 c.loop-index.columns.items c.push.new.self.items
    c.in_ok-small.ensures c.loop-index.invariant c.in_ok-push.ensures.items
