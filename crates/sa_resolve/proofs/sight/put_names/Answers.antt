use Rattle.std.proofs.Common.{rules}
use Rattle.sa_resolve.proofs.names.Columns.{with_columns-step}
use Rattle.sa_resolve.proofs.sight.put_names.Goals as goal

pub loop-index-preserved : goal.loop-index-preserved
loop-index-preserved c =
    λ name. with_columns-step _ _ _ c.args.table c.args.defs.now c.loop-index.index c.index-defs-index.result c.in_ok-small.field-0 c.as_str.result.now name
    (search rules) c.as_str.ensures c.in_ok-small.ensures (c.loop-index.invariant name) (c.in_ok-put_name.ensures name)
