-- Expressions whose text stands in brackets.
use Rattle.std.proofs.Common.{◌≡◌, ℕ, zero, suc, ◌+◌, ◌≤◌, List, arith}
use Rattle.sa_ast.specs.declared.expression.ExprNode.{ExprNode, ExprNode-F, out-ExprNode}
use Rattle.sa_ast.specs.declared.expression.ExprTree.{ExprTree}
use Rattle.sa_ast.specs.Place.{unplaced_expr}
use Rattle.sa_print.specs.Expression.{canonical_expr}
use Rattle.sa_print.specs.Lists.{bracketed}
use Rattle.sa_parser.specs.Tree.{tree}
use Rattle.sa_parser.specs.ExprGrammar.{Factor, Disjunction, nested}
use Rattle.sa_parser.proofs.canonical_text.Fine.{Reads, Fine, HasShort, closed}
use Rattle.sa_parser.proofs.canonical_text.Leaves.{fine}
use Rattle.sa_parser.proofs.canonical_text.Lexed.{Quiet}

-- a node that is read back from its text in brackets
pub record IsInside (made : ExprNode) : Type 0 where
  pub layer : ExprNode-F ExprNode ExprTree
  pub opens : out-ExprNode made ≡ layer
  pub text : List ℕ
  pub written : (place : ℕ) → canonical_expr (tree place made) ≡ bracketed text
  pub value : ExprTree
  pub bare : (place : ℕ) → unplaced_expr (tree place made) ≡ value
  pub short : HasShort layer
  pub levels : ℕ
  pub reads : (more place : ℕ) → levels ≤ more → Reads (Disjunction (nested more)) unplaced_expr Quiet place text value

deep_reads : (made : ExprNode) (is : IsInside made) (more place : ℕ) → suc is.levels ≤ more → Reads (Factor (nested more)) unplaced_expr Quiet place (bracketed is.text) is.value
deep_reads made is zero place enough = absurd (omega (arith, enough))
deep_reads made is (suc more) place enough = closed more place is.text is.value (is.reads more (place + 1) (omega (arith, enough)))

pub fine_inside : (place : ℕ) (made : ExprNode) → IsInside made → Fine (tree place made)
fine_inside place made is =
    fine place made (record {
      layer = is.layer;
      opens = is.opens;
      text = bracketed is.text;
      written = is.written;
      value = is.value;
      bare = is.bare;
      short = is.short;
      begins = λ other after same. omega (arith, same);
      levels = suc is.levels;
      reads = deep_reads made is;
    })
