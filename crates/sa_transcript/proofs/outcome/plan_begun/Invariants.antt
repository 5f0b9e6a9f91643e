use Rattle.std.proofs.Common.{◌≡◌, ◌==◌, ◌&&◌, ◌-◌, [], filter, take, slice_index_or}
use Rattle.sa_desk.specs.declared.entry.Entry.{Entry}
use Rattle.sa_transcript.proofs.outcome.plan_begun.Given as goal

abbrev pub invariant-loop-entry : goal.invariant-loop-entry
invariant-loop-entry l =
    filter (λ (entry : Entry). (entry.actor == l.desk) && (entry.seq == l.begin)) (take l.entry-index (slice_index_or l.journals (l.desk - 1) [])) ≡ []
