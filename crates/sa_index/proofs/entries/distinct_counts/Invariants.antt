use Rattle.std.proofs.Common.{◌≡◌, map, take}
use Rattle.std.specs.List.{range_with_len}
use Rattle.sa_index.specs.Entries.{is_alike, different}
use Rattle.sa_index.proofs.entries.distinct_counts.Given as goal

abbrev pub invariant-loop-count : goal.invariant-loop-count
invariant-loop-count l =
    l.counts.items ≡ map (λ count. different (is_alike l.tables l.table (take count l.parts)) l.rows)
    (range_with_len 0 l.count)
