use Rattle.std.proofs.Common.{length, ◌-◌, ◌≤◌}
use Rattle.std.specs.Str.{IsCharBoundary}
use Rattle.sa_script.specs.inner.Step.{LeadsTo}
use Rattle.sa_script.proofs.reading.read_pieces.Given as goal

abbrev pub invariant-loop-said : goal.invariant-loop-said
invariant-loop-said l = record {
  leads : LeadsTo l.script l.said l.place;
  cut : IsCharBoundary l.script l.place;
  few : length l.said.sessions ≤ 16;
}

abbrev pub decreases-loop-said : goal.decreases-loop-said
decreases-loop-said l = length l.script - l.place
