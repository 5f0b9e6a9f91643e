use Rattle.std.proofs.Common.{◌≡◌, List, map, take, option_map}
use Rattle.std.specs.List.{flat_map}
use Rattle.sa_ast.specs.declared.select.OrderTree.{OrderTree}
use Rattle.sa_query.specs.declared.refusal.ResolveKind.TheVariants.{TooManyItems}
use Rattle.sa_resolve.specs.Clauses.{Clauses, slots_of}
use Rattle.sa_resolve.specs.Fault.{least}
use Rattle.sa_resolve.specs.Faults.{own_faults, too_many}
use Rattle.sa_resolve.specs.Reading.{Reading}
use Rattle.sa_resolve.specs.inner.Building.{slots_at}
use Rattle.sa_resolve.specs.inner.Knowing.{AreLooked}
use Rattle.sa_resolve.specs.inner.Least.{fault_of, sooner}
use Rattle.sa_resolve.proofs.clauses.Clauses.order_fault.Given as goal

abbrev pub invariant-loop-one : goal.invariant-loop-one
invariant-loop-one l = (clauses : Clauses) (ones : List Reading) → option_map slots_at l.slots ≡ slots_of clauses
    → AreLooked l.self.order.items ones
    → fault_of l.fault ≡ sooner (least (too_many TooManyItems 8 (map (λ (tree : OrderTree). tree.place) l.trees)))
    (least (flat_map (own_faults clauses) (take l.one-index ones)))
