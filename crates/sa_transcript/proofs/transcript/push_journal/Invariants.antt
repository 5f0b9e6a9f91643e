use Rattle.std.proofs.Common.{◌≡◌, ◌++◌, take}
use Rattle.std.specs.List.{flat_map}
use Rattle.sa_transcript.specs.Transcript.{entry_lines}
use Rattle.sa_transcript.proofs.transcript.push_journal.Given as goal

abbrev pub invariant-loop-entry : goal.invariant-loop-entry
invariant-loop-entry l = l.text.items ≡ l.initial.text.items ++ flat_map (entry_lines l.names l.journals) (take l.entry-index l.journal)
