use Rattle.std.proofs.Common.{◌≡◌, length, take, sym, ap, ◌∙◌}
use Rattle.std.specs.Ordering.{ordering_then, ordering_reverse}
use Rattle.sa_key.specs.Order.{order_of_tuples}
use Rattle.sa_key.specs.Range.{before_longer}
use Rattle.sa_key.proofs.RangeLemmas.{shorter_decides}
use Rattle.sa_key.proofs.order.order_longer.Goals as goal
use Rattle.sa_key.proofs.order.order_longer.Goals.{in-Below, in-Above}

pub returns : goal.returns
returns c =
    let side : c.match-shorter.behind ≡ ordering_reverse (before_longer c.args.shorter.now.side) =
    elim c.match-shorter.branch [ in-Below w ↦ (cc) | in-Above w ↦ (cc) ] in
    c.then.ensures
    ∙ ap (λ front. ordering_then front c.match-shorter.behind) c.order_front.ensures
    ∙ ap (λ behind. ordering_then (order_of_tuples (take (length c.args.shorter.now.tuple) c.args.cut.now.tuple) c.args.shorter.now.tuple) behind) side
    ∙ sym (shorter_decides c.args.cut.now.tuple c.args.shorter.now.tuple c.args.cut.now.side c.args.shorter.now.side c.requires)
