use Rattle.std.proofs.Common.{◌≡◌, map, take}
use Rattle.serde_json.specs.View.{view}
use Rattle.sa_explain.specs.Access.{range_data}
use Rattle.sa_explain.proofs.access.ranges_json.Given as goal

abbrev pub invariant-loop-range : goal.invariant-loop-range
invariant-loop-range l = map view l.items.items ≡ map range_data (take l.range-index l.ranges)
