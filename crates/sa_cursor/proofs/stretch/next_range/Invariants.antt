use Rattle.std.proofs.Common.{◌≡◌, drop}
use Rattle.sa_cursor.specs.inner.Stretch.{rows_of_ranges}
use Rattle.sa_cursor.proofs.stretch.next_range.Given as goal

abbrev pub invariant-loop-number : goal.invariant-loop-number
invariant-loop-number g l =
    rows_of_ranges (g.I.Index.indexed l.index) (drop l.number l.ranges)
    ≡ rows_of_ranges (g.I.Index.indexed l.index) (drop l.begun l.ranges)
