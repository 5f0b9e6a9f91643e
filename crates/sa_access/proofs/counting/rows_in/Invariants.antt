use Rattle.std.proofs.Common.{◌≡◌, ◌+◌, count_by, drop}
use Rattle.sa_index.specs.Entries.{entries_of}
use Rattle.sa_access.specs.inner.Counted.{in_ranges}
use Rattle.sa_access.proofs.counting.rows_in.Given as goal

abbrev pub invariant-loop-range : goal.invariant-loop-range
invariant-loop-range g l =
    l.rows + count_by (in_ranges (g.I.Index.indexed l.index) (drop l.range-index l.ranges)) (entries_of (g.I.Index.indexed l.index))
    ≡ count_by (in_ranges (g.I.Index.indexed l.index) l.ranges) (entries_of (g.I.Index.indexed l.index))
