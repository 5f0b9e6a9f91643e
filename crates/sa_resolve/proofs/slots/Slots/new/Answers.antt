use Rattle.sa_resolve.proofs.list.Grouping.{column_more}
use Rattle.sa_resolve.proofs.slots.Slots.new.Goals as goal

pub loop-one-preserved : goal.loop-one-preserved
loop-one-preserved c = λ column.
    column_more c.deref-one-items.result.now c.loop-one.one-index (record { table = 0; column = 0 }) column _
    _
    c.loop-one-test.true (c.loop-one.invariant column) (c.in_ok-insert.ensures.updates.0
    (column.table, column.column))
