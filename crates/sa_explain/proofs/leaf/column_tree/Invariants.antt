use Rattle.std.proofs.Common.{◌≡◌, drop}
use Rattle.sa_explain.specs.Written.{column_node}
use Rattle.sa_explain.proofs.leaf.column_tree.Given as goal

abbrev pub invariant-loop-level : goal.invariant-loop-level
invariant-loop-level l =
    column_node l.names l.levels l.position l.column ≡ column_node l.names (drop l.level-index l.levels) l.position l.column
