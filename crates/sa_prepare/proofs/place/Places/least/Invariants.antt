use Rattle.std.proofs.Common.{◌≡◌, take}
use Rattle.sa_prepare.specs.Unbuilt.{least_place}
use Rattle.sa_prepare.proofs.place.Places.least.Given as goal

abbrev pub invariant-loop-place : goal.invariant-loop-place
invariant-loop-place l = l.least ≡ least_place (take l.place-index l.place-items)
