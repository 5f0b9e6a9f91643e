use Rattle.std.proofs.Common.{◌≡◌, ◌++◌}
use Rattle.sa_resolve.specs.inner.Sighted.{columns_to}
use Rattle.sa_resolve.proofs.sight.put_columns.Given as goal

-- The columns so far stand last.
abbrev pub invariant-loop-index : goal.invariant-loop-index
invariant-loop-index l = l.columns.items ≡ l.fn.columns.items ++ columns_to l.table l.index
