use Rattle.std.proofs.Common.{◌≡◌, map, take}
use Rattle.sa_range.specs.RangeList.{range_list}
use Rattle.sa_access_tests.proofs.ranges.table_ranges.Given as goal

abbrev pub invariant-loop-key : goal.invariant-loop-key
invariant-loop-key l = l.lists ≡ take l.key-index (map (λ key. range_list l.filter l.position key.parts) l.key-items)
