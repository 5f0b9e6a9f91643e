use Rattle.std.proofs.Common.{take}
use Rattle.sa_resolve.specs.inner.Sighted.{HasTables}
use Rattle.sa_resolve.proofs.sight.Sight.new.Given as goal

-- The tables so far are kept.
abbrev pub invariant-loop-tree : goal.invariant-loop-tree
invariant-loop-tree l = HasTables l.tables (take l.tree-index l.from) l.sight
