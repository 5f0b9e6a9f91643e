use Rattle.sa_cond.specs.declared.expr.Expr.{the_lemmas as expr_lemmas}
use Rattle.sa_explain.proofs.access.part_tree.Goals as goal

pub returns-in-Literal : goal.returns-in-Literal
returns-in-Literal c = rw c.in-Literal.is (simp expr_lemmas c.literal_tree.ensures)

pub returns-in-Column : goal.returns-in-Column
returns-in-Column c = rw c.in-Column.is (simp expr_lemmas c.column_tree.ensures)
