use Rattle.sa_simplify.proofs.SimpleLemmas.{after_expand, after_push, after_fold, after_turn, after_decide}
use Rattle.sa_simplify.proofs.simple.simplify.Goals as goal

pub folded-requires : goal.folded-requires
folded-requires c = after_push _ _ c.in_ok-inward.ensures (after_expand c.args.filter _ c.in_ok-written_out.ensures c.requires.typed)

pub turned-requires : goal.turned-requires
turned-requires c = after_fold _ _ c.in_ok-computed.ensures (after_push _ _ c.in_ok-inward.ensures (after_expand c.args.filter _ c.in_ok-written_out.ensures c.requires.typed))

pub decided-requires : goal.decided-requires
decided-requires c =
    after_turn _ _ c.in_ok-sided.ensures (after_fold _ _ c.in_ok-computed.ensures (after_push _ _ c.in_ok-inward.ensures (after_expand c.args.filter _ c.in_ok-written_out.ensures c.requires.typed)))

pub flattened-requires : goal.flattened-requires
flattened-requires c =
    after_decide _ _ c.in_ok-settled.ensures (after_turn _ _ c.in_ok-sided.ensures (after_fold _ _ c.in_ok-computed.ensures (after_push _ _ c.in_ok-inward.ensures (after_expand c.args.filter _ c.in_ok-written_out.ensures c.requires.typed))))
