use Rattle.std.proofs.Common.{rules}
use Rattle.std.proofs.lemmas.List.Sorted.{IsPartitionPoint-from_clause}
use Rattle.sa_key.specs.Cut.{cut_at}
use Rattle.sa_key.specs.Order.{is_before}
use Rattle.sa_index.specs.Indexed.{tuple_of}
use Rattle.sa_index.proofs.CountLemmas.{count-partition}
use Rattle.sa_index.proofs.RowLemmas.{parted}
use Rattle.sa_index.proofs.entries.count_before.Goals as goal

pub returns : goal.returns
returns c =
    count-partition
    (λ row. is_before (tuple_of c.args.tables.now c.args.table c.args.parts.now row) (cut_at c.args.cut.now))
    c.args.rows.now c.partition_point-before.result c.partition_point-before.ensures.bound
    (IsPartitionPoint-from_clause
    (λ row. is_before (tuple_of c.args.tables.now c.args.table c.args.parts.now row) (cut_at c.args.cut.now))
    c.args.rows.now c.partition_point-before.result c.partition_point-before.ensures.partitioned
    (parted c.order_of_tuples_is_total.ensures c.before_goes_down.ensures c.args.tables.now c.args.table c.args.parts.now
    c.args.rows.now (cut_at c.args.cut.now) c.requires.rise)
    (λ a r q k. search rules))
