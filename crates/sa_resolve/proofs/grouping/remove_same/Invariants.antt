use Rattle.std.proofs.Common.{◌≡◌, not, vec_len}
use Rattle.std.specs.List.{filter}
use Rattle.sa_resolve.specs.Same.{same_aggregate}
use Rattle.sa_resolve.proofs.grouping.remove_same.Given as goal

abbrev pub invariant-loop-index : goal.invariant-loop-index
invariant-loop-index l =
    filter (λ other. not (same_aggregate l.one other)) l.kept.items
    ≡ filter (λ other. not (same_aggregate l.one other)) l.fn.kept.items

abbrev pub decreases-loop-index : goal.decreases-loop-index
decreases-loop-index l = vec_len l.kept
