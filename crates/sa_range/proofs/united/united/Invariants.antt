use Rattle.std.proofs.Common.{◌≡◌, [], map, take}
use Rattle.sa_key.specs.Range.{canonical_range}
use Rattle.sa_range.specs.RangeList.{range_of, united}
use Rattle.sa_range.proofs.united.united.Given as goal

abbrev pub invariant-loop-walk : goal.invariant-loop-walk
invariant-loop-walk l = l.ranges.items ≡ united (map (λ walk. canonical_range (range_of [] walk)) (take l.walk-index l.walks))
