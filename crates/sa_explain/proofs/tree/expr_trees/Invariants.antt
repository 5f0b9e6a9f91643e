use Rattle.std.proofs.Common.{◌≡◌, map, take}
use Rattle.sa_print.specs.Expression.{canonical_expr}
use Rattle.sa_explain.specs.Written.{expr_text}
use Rattle.sa_explain.proofs.tree.expr_trees.Given as goal

abbrev pub invariant-loop-expr : goal.invariant-loop-expr
invariant-loop-expr l = map canonical_expr l.trees ≡ map (expr_text l.names l.levels) (take l.expr-index l.list)
