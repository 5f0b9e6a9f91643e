use Rattle.std.proofs.Common.{◌≡◌, List, take}
use Rattle.std.specs.List.{flat_map}
use Rattle.sa_query.specs.declared.refusal.ResolveKind.TheVariants.{TooManyConstants}
use Rattle.sa_resolve.specs.Fault.{least}
use Rattle.sa_resolve.specs.Faults.{filter_faults, too_many}
use Rattle.sa_resolve.specs.Reading.{Reading}
use Rattle.sa_resolve.specs.inner.Knowing.{AreLooked}
use Rattle.sa_resolve.specs.inner.Least.{fault_of, sooner}
use Rattle.sa_resolve.proofs.clauses.Clauses.filter_fault.Given as goal

abbrev pub invariant-loop-one : goal.invariant-loop-one
invariant-loop-one l = (ones : List Reading) → AreLooked l.self.filters.items ones
    → fault_of l.fault ≡ sooner (least (too_many TooManyConstants 1024 (flat_map (λ (one : Reading). one.literals) ones)))
    (least (flat_map filter_faults (take l.one-index ones)))
