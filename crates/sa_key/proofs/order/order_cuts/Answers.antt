use Rattle.std.proofs.Common.{◌≡◌, length, take, sym, ap, ◌∙◌, arith}
use Rattle.std.specs.Ordering.{ordering_then, ordering_reverse}
use Rattle.sa_key.specs.Cut.{cut_at}
use Rattle.sa_key.specs.Order.{order_of_tuples}
use Rattle.sa_key.proofs.RangeLemmas.{sides_decide, order_of_cuts-total}
use Rattle.sa_key.proofs.order.order_cuts.Goals as goal

pub returns-then-len : goal.returns-then-len
returns-then-len c =
    c.reverse.ensures
    ∙ ap ordering_reverse c.order_longer.ensures
    ∙ sym ((order_of_cuts-total c.order_is_total.ensures).antisymm (cut_at c.args.a.now) (cut_at c.args.b.now))

pub returns-else-len-2 : goal.returns-else-len-2
returns-else-len-2 c =
    let same : length c.args.a.now.tuple ≡ length c.args.b.now.tuple = omega arith in
    c.then.ensures
    ∙ ap (λ front. ordering_then front c.order_sides.result) c.order_front.ensures
    ∙ ap (λ behind. ordering_then (order_of_tuples (take (length c.args.b.now.tuple) c.args.a.now.tuple) c.args.b.now.tuple) behind) c.order_sides.ensures
    ∙ sym (sides_decide c.args.a.now.tuple c.args.b.now.tuple c.args.a.now.side c.args.b.now.side same)
