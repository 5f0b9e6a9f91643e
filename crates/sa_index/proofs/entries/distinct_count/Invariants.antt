use Rattle.std.proofs.Common.{◌≡◌, ◌+◌, ◌≤◌, drop}
use Rattle.sa_index.specs.Entries.{is_alike}
use Rattle.sa_index.specs.inner.Built.{ends}
use Rattle.sa_index.proofs.entries.distinct_count.Given as goal

abbrev pub invariant-loop-index : goal.invariant-loop-index
invariant-loop-index l = record {
  few : l.count ≤ l.index;
  left : l.count + ends (is_alike l.tables l.table l.parts) (drop l.index l.rows)
      ≡ ends (is_alike l.tables l.table l.parts) l.rows;
}
