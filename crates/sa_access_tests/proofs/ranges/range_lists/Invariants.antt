use Rattle.std.proofs.Common.{◌≡◌, take}
use Rattle.sa_access.specs.Asked.{range_lists}
use Rattle.sa_access_tests.proofs.ranges.range_lists.Given as goal

abbrev pub invariant-loop-position : goal.invariant-loop-position
invariant-loop-position l = l.lists ≡ take l.position (range_lists l.tables l.query)
