use Rattle.std.proofs.Common.{◌≡◌, map, take}
use Rattle.sa_print.specs.Expression.{canonical_expr}
use Rattle.sa_explain.specs.Written.{cond_text}
use Rattle.sa_explain.proofs.tree.+cond_tree.Given as goal

abbrev pub invariant-cond_trees-loop-cond : goal.invariant-cond_trees-loop-cond
invariant-cond_trees-loop-cond l = map canonical_expr l.trees ≡ map (cond_text l.names l.levels) (take l.cond-index l.list)
