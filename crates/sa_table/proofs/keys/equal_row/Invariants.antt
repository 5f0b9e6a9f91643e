use Rattle.std.proofs.Common.{◌≡◌, ◌-◌, ◌<◌, ◌≤◌}
use Rattle.sa_table.specs.Table.{key_tuple}
use Rattle.sa_table.specs.inner.Digest.{digest_of}
use Rattle.sa_table.specs.inner.Keys.{row_digest}
use Rattle.sa_table.specs.inner.Store.{rows_in}
use Rattle.sa_table.proofs.IndexLemmas.{NoneFrom}
use Rattle.sa_table.proofs.keys.equal_row.Given as goal

abbrev pub invariant-loop-bound : goal.invariant-loop-bound
invariant-loop-bound l = record {
  within : l.bound ≤ l.store.count;
  last : 0 < l.bound → row_digest l.key.parts (rows_in l.store) (l.bound - 1) ≡ digest_of (key_tuple l.key.parts l.row);
  none : NoneFrom l.key (rows_in l.store) l.row l.bound;
}

abbrev pub decreases-loop-bound : goal.decreases-loop-bound
decreases-loop-bound l = l.bound
