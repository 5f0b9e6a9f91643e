use Rattle.std.proofs.Common.{◌≡◌, take}
use Rattle.std.specs.List.{flat_map}
use Rattle.sa_transcript.specs.Transcript.{entry_lines}
use Rattle.sa_transcript.proofs.transcript.render.Given as goal

abbrev pub invariant-loop-journal : goal.invariant-loop-journal
invariant-loop-journal l = l.text.items ≡ flat_map (flat_map (entry_lines l.names l.journals-2)) (take l.journal-index l.journals-2)
