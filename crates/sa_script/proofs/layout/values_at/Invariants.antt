use Rattle.std.proofs.Common.{◌≡◌, take}
use Rattle.sa_script.specs.inner.Setup.{values_at}
use Rattle.sa_script.proofs.layout.values_at.Given as goal

abbrev pub invariant-loop-place : goal.invariant-loop-place
invariant-loop-place l = l.row.items ≡ values_at l.values (take l.place-index l.places)
