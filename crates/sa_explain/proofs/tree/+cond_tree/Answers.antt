use Rattle.std.proofs.Common.{sym, ap, ◌∙◌}
use Rattle.sa_print.specs.Expression.{canonical_expr}
use Rattle.sa_explain.specs.Written.{cond_text}
use Rattle.sa_explain.proofs.Trees.{and_written, or_written}
use Rattle.sa_explain.proofs.tree.+cond_tree.Goals as goal

pub cond_tree-returns-in_ok-members-in-And : goal.cond_tree-returns-in_ok-members-in-And
cond_tree-returns-in_ok-members-in-And t c =
    ap canonical_expr c.placeless-in-And.ensures
    ∙ and_written c.args.names.now c.args.levels.now c.in_ok-members-in-And.members c.in-And.members (rw c.as_slice-in-And.ensures at c.in_ok-members-in-And.ensures)
    ∙ ap (cond_text c.args.names.now c.args.levels.now) (sym c.in-And.is)

pub cond_tree-returns-in_ok-members-in-Or : goal.cond_tree-returns-in_ok-members-in-Or
cond_tree-returns-in_ok-members-in-Or t c =
    ap canonical_expr c.placeless-in-Or.ensures
    ∙ or_written c.args.names.now c.args.levels.now c.in_ok-members-in-Or.members c.in-Or.members (rw c.as_slice-in-Or.ensures at c.in_ok-members-in-Or.ensures)
    ∙ ap (cond_text c.args.names.now c.args.levels.now) (sym c.in-Or.is)
