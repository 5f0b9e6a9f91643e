use Rattle.std.proofs.Common.{◌≡◌, ◌+◌, ◌-◌, IsTrue, take, get_or, sym, ◌∙◌, ap, subst, arith}
use Rattle.std.proofs.lemmas.Result.{IfOk-weaker}
use Rattle.sa_interval.specs.Canonical.{ArePieces}
use Rattle.sa_interval.proofs.Rising.{EndsBy, pieces_more}
use Rattle.sa_interval.proofs.tests.may_follow.Goals as goal

pub returns : goal.returns
returns c =
    let n = c.args.index - 1 in
    let index : n + 1 ≡ c.args.index = omega arith in
    IfOk-weaker c.isnt_behind-2.result (λ isnt. IsTrue isnt → EndsBy c.index-pieces-index-2.result c.index-pieces-index.result)
    (λ may. IsTrue may → ArePieces (take c.args.index c.args.pieces.now) → ArePieces (take (c.args.index + 1) c.args.pieces.now))
    (λ may behind is. subst (λ index. ArePieces (take index c.args.pieces.now) → ArePieces (take (index + 1) c.args.pieces.now)) index
    (pieces_more c.order_of_cuts_is_total.ensures c.args.pieces.now n c.index-pieces-index-2.result c.index-pieces-index.result (omega arith) c.index-pieces-index-2.is (c.index-pieces-index.is ∙ ap (λ i. get_or c.args.pieces.now i c.index-pieces-index.result) (sym index)) (c.in_ok-isnt_behind.ensures c.if-not-branch.false) (behind is)))
    c.isnt_behind-2.ensures
