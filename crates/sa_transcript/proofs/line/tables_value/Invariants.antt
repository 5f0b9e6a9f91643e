use Rattle.std.proofs.Common.{◌≡◌, map, take}
use Rattle.serde_json.specs.View.{view}
use Rattle.sa_transcript.specs.Line.{counters_data}
use Rattle.sa_transcript.proofs.line.tables_value.Given as goal

abbrev pub invariant-loop-counters : goal.invariant-loop-counters
invariant-loop-counters l = map view l.items.items ≡ map counters_data (take l.counters-index l.tables)
