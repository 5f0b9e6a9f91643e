use Rattle.sa_value.specs.Value.{value_at}
use Rattle.sa_cond.specs.Choice.{Choice}
use Rattle.sa_cond.specs.Expression.{expr_value}
use Rattle.sa_cond.proofs.Comparisons.{CanCompare-same, CanCompare-values}
use Rattle.sa_cond.proofs.comparison.compare_values.Goals as goal

pub compare-requires : goal.compare-requires
compare-requires g c =
    let choice : Choice = record { cell = g.R.Cells.cell_of c.args.rows.now; slot = g.R.Cells.slot_of c.args.rows.now } in
    CanCompare-same (expr_value choice c.args.left.now) (expr_value choice c.args.right.now) (value_at c.value_of.result) (value_at c.value_of-2.result)
    c.value_of.ensures c.value_of-2.ensures (CanCompare-values choice c.args.left.now c.args.right.now c.requires.typed)
