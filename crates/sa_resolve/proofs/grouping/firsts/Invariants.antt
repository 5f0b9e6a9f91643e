use Rattle.std.proofs.Common.{◌≡◌, List, ◌++◌, vec_len}
use Rattle.sa_query.specs.declared.group.Aggregate.{Aggregate}
use Rattle.sa_query.specs.Groups.{firsts}
use Rattle.sa_resolve.specs.Same.{same_aggregate}
use Rattle.sa_resolve.proofs.grouping.firsts.Given as goal

abbrev pub invariant-loop-one : goal.invariant-loop-one
invariant-loop-one l =
    (others : List Aggregate) × (l.fn.aggregates.items ≡ l.left.items ++ others) × (l.kept.items
    ≡ firsts same_aggregate others)

abbrev pub decreases-loop-one : goal.decreases-loop-one
decreases-loop-one l = vec_len l.left
