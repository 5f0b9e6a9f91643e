use Rattle.sa_simplify.proofs.FoldLemmas.{right_is_proper}
use Rattle.sa_simplify.proofs.fold.FoldRewrite.node.Goals as goal

pub folded_expr-requires-in-Compare : goal.folded_expr-requires-in-Compare
folded_expr-requires-in-Compare c = right_is_proper c.args.cond _ c.in-Compare.left c.in-Compare.right c.in-Compare.is c.requires
