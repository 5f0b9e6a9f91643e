-- The texts of AND and OR, of a statement's tree and of a plan's condition.
use Rattle.std.proofs.Common.{◌≡◌, List, map, codes, sym, ap, ◌∙◌}
use Rattle.sa_ast.specs.declared.expression.ExprNode.TheVariants as node
use Rattle.sa_ast.specs.declared.expression.ExprTree.{ExprTree, the_lemmas as tree_lemmas}
use Rattle.sa_print.specs.Expression.{canonical_expr}
use Rattle.sa_print.specs.Lists.{joined, bracketed}
use Rattle.sa_cond.specs.declared.cond.Cond.{Cond, the_lemmas as cond_lemmas}
use Rattle.sa_cond.specs.declared.cond.Cond.TheVariants as cond
use Rattle.sa_plan.specs.declared.names.TableNames.{TableNames}
use Rattle.sa_plan.specs.declared.plan.Level.{Level}
use Rattle.sa_explain.specs.Written.{cond_text}

module _ (names : List TableNames) (levels : List Level) (trees : List ExprTree) (members : List Cond) where
  -- Where the members are written alike, so is the whole.
  pub and_written : map canonical_expr trees ≡ map (cond_text names levels) members
      → canonical_expr (record { node = node.And trees; place = 0 }) ≡ cond_text names levels (cond.And members)
  and_written alike =
      let tree : canonical_expr (record { node = node.And trees; place = 0 }) ≡ bracketed (joined (codes " AND ") (map canonical_expr trees)) = simp tree_lemmas in
      let text : cond_text names levels (cond.And members) ≡ bracketed (joined (codes " AND ") (map (cond_text names levels) members)) = simp cond_lemmas in
      tree ∙ ap (λ texts. bracketed (joined (codes " AND ") texts)) alike ∙ sym text

  pub or_written : map canonical_expr trees ≡ map (cond_text names levels) members
      → canonical_expr (record { node = node.Or trees; place = 0 }) ≡ cond_text names levels (cond.Or members)
  or_written alike =
      let tree : canonical_expr (record { node = node.Or trees; place = 0 }) ≡ bracketed (joined (codes " OR ") (map canonical_expr trees)) = simp tree_lemmas in
      let text : cond_text names levels (cond.Or members) ≡ bracketed (joined (codes " OR ") (map (cond_text names levels) members)) = simp cond_lemmas in
      tree ∙ ap (λ texts. bracketed (joined (codes " OR ") texts)) alike ∙ sym text
