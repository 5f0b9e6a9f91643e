use Rattle.std.proofs.Common.{◌≡◌, length, take, drop}
use Rattle.sa_key.specs.Order.{order_of_tuples}
use Rattle.sa_key.proofs.order.order_front.Given as goal

abbrev pub invariant-loop-index : goal.invariant-loop-index
invariant-loop-index l =
    order_of_tuples (drop l.index (take (length l.other) l.tuple)) (drop l.index l.other)
    ≡ order_of_tuples (take (length l.other) l.tuple) l.other
