-- All expressions of a list are read back from so many levels on.
use Rattle.std.proofs.Common.{ℕ, ◌+◌, ◌≤◌, List, [], ◌∷◌, arith}
use Rattle.std.specs.List.{AllByRecursion}
use Rattle.sa_ast.specs.declared.expression.ExprTree.{ExprTree}
use Rattle.sa_ast.specs.Place.{unplaced_expr}
use Rattle.sa_print.specs.Expression.{canonical_expr}
use Rattle.sa_parser.specs.ExprGrammar.{Factor, nested}
use Rattle.sa_parser.proofs.canonical_text.Fine.{Fine}
use Rattle.sa_parser.proofs.canonical_text.Lists.{AllRead}

abbrev pub AllFine : List ExprTree → Type 0
AllFine trees = AllByRecursion Fine trees

-- enough levels for each of them
abbrev pub levels_of : (trees : List ExprTree) → AllFine trees → ℕ
levels_of [] are = 0
levels_of (tree ∷ trees) are = are.0.levels + levels_of trees are.1

pub all_read : (trees : List ExprTree) (are : AllFine trees) (more : ℕ) → levels_of trees are ≤ more
    → AllRead (Factor (nested more)) unplaced_expr canonical_expr unplaced_expr trees
all_read [] are more enough = tt
all_read (tree ∷ trees) are more enough =
    ((λ place. are.0.reads more place (omega (arith, enough))), all_read trees are.1 more (omega (arith, enough)))
