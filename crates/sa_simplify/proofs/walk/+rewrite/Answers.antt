use Rattle.std.proofs.Common.{rules, arith}
use Rattle.std.proofs.lemmas.Grind.{common_steps, pieces}
use Rattle.sa_cond.specs.declared.cond.Cond.{Cond, fold-Cond, the_lemmas}
use Rattle.sa_simplify.proofs.Lists.{mapped_next}
use Rattle.sa_simplify.proofs.TypedLemmas.{AreWellTyped-And, AreWellTyped-Or, AreWellTyped-rest, AreWellTyped-last}
use Rattle.sa_simplify.proofs.walk.+rewrite.Goals as goal

pub rewritten-rewritten_all-requires : goal.rewritten-rewritten_all-requires
rewritten-rewritten_all-requires g t c κs within =
    (search (rules, the_lemmas), (search (rules, the_lemmas), AreWellTyped-And _ _ c.in-And.is c.requires))

pub rewritten-rewritten_all-requires-in-Or : goal.rewritten-rewritten_all-requires-in-Or
rewritten-rewritten_all-requires-in-Or g t c κs within =
    (search (rules, the_lemmas), (search (rules, the_lemmas), AreWellTyped-Or _ _ c.in-Or.is c.requires))

pub rewritten_all-rewritten-requires : goal.rewritten_all-rewritten-requires
rewritten_all-rewritten-requires g t c κs within = (
  first_of (search (rules, the_lemmas), grind (arith, common_steps), search (pieces, arith) depth 5 fits 300),
  (first_of (search (rules, the_lemmas), grind (arith, common_steps)), AreWellTyped-last _ _ _ c.in-Some.ensures c.loop-member.invariant.2),
)

pub rewritten_all-loop-member-preserved : goal.rewritten_all-loop-member-preserved
rewritten_all-loop-member-preserved g t c = (
  first_of (search (rules, the_lemmas), grind (arith, common_steps), search (pieces, arith) depth 5 fits 300),
  mapped_next (fold-Cond Cond g.R.Rewrite.node_done) _ _ _ _ _ _ _ c.in-Some.ensures c.in_ok-push.ensures.ok c.in_ok-rewritten.ensures c.loop-member.invariant.1,
  AreWellTyped-rest _ _ _ c.in-Some.ensures c.loop-member.invariant.2,
)
