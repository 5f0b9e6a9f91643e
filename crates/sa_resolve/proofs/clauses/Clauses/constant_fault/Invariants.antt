use Rattle.std.proofs.Common.{◌≡◌, drop}
use Rattle.std.specs.List.{flat_map, slice_get}
use Rattle.sa_resolve.specs.inner.Judging.{literals_at}
use Rattle.sa_resolve.proofs.clauses.Clauses.constant_fault.Given as goal

abbrev pub invariant-loop-one : goal.invariant-loop-one
invariant-loop-one l = slice_get (flat_map literals_at (drop l.one-index l.self.filters.items)) l.left
    ≡ slice_get (flat_map literals_at l.self.filters.items) 1024
