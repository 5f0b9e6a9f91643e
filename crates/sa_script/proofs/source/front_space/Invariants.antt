use Rattle.std.proofs.Common.{length, ◌-◌, ◌≡◌, ◌+◌, ◌≤◌, drop}
use Rattle.std.specs.Str.{IsCharBoundary}
use Rattle.sa_script.specs.Piece as spec
use Rattle.sa_script.proofs.source.front_space.Given as goal

abbrev pub invariant-loop-count : goal.invariant-loop-count
invariant-loop-count l = record {
  within : l.count ≤ length l.bytes;
  passed : spec.front_space l.bytes ≡ l.count + spec.front_space (drop l.count l.bytes);
  cut : IsCharBoundary l.bytes l.count;
}

abbrev pub decreases-loop-count : goal.decreases-loop-count
decreases-loop-count l = length l.bytes - l.count
