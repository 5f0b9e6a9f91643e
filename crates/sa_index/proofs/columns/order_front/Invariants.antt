use Rattle.std.proofs.Common.{◌≡◌, length, take, drop}
use Rattle.sa_key.specs.Order.{order_of_tuples}
use Rattle.sa_index.specs.inner.Columns.{tuple_in}
use Rattle.sa_index.proofs.columns.order_front.Given as goal

abbrev pub invariant-loop-part : goal.invariant-loop-part
invariant-loop-part l =
    order_of_tuples (drop l.part (take (length l.tuple) (tuple_in l.columns l.position))) (drop l.part l.tuple)
    ≡ order_of_tuples (take (length l.tuple) (tuple_in l.columns l.position)) l.tuple
