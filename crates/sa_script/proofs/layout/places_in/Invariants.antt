use Rattle.std.proofs.Common.{◌≡◌, take}
use Rattle.sa_script.specs.inner.Setup.{places_in}
use Rattle.sa_script.proofs.layout.places_in.Given as goal

abbrev pub invariant-loop-column : goal.invariant-loop-column
invariant-loop-column l = l.places.items ≡ places_in l.names (take l.column-index l.columns)
