use Rattle.std.proofs.Common.{◌∙◌, ap}
use Rattle.std.specs.List.{flat_map}
use Rattle.sa_resolve.specs.Clauses.{column_of}
use Rattle.sa_resolve.proofs.list.Grouping.{columns_more, looked_all, looked_there}
use Rattle.sa_resolve.proofs.grouping.group_columns.Goals as goal

pub loop-item-preserved : goal.loop-item-preserved
loop-item-preserved c = λ readings are.
    columns_more readings c.loop-item.item-index c.item-item.result c.loop-item.columns.items
    c.put_column.new.columns.items
    (looked_there c.args.group.now readings are c.loop-item.item-index c.item-item.result
    c.loop-item-test.true c.item-item.is)
    (c.loop-item.invariant readings are) c.in_ok-put_column.ensures

pub returns : goal.returns
returns c = λ readings are.
    c.loop-item.invariant readings are
    ∙ ap (flat_map column_of) (looked_all c.args.group.now readings are c.loop-item.item-index
    c.loop-item-test.false)
