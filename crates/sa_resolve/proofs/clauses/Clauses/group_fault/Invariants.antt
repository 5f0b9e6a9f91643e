use Rattle.std.proofs.Common.{◌≡◌, List, length, map, take}
use Rattle.std.specs.List.{flat_map, zip}
use Rattle.sa_ast.specs.declared.select.GroupTree.{GroupTree}
use Rattle.sa_query.specs.declared.refusal.ResolveKind.TheVariants.{TooManyItems}
use Rattle.sa_resolve.specs.Clauses.{Clauses}
use Rattle.sa_resolve.specs.Fault.{least}
use Rattle.sa_resolve.specs.Faults.{group_item_faults, too_many}
use Rattle.sa_resolve.specs.Reading.{Reading}
use Rattle.sa_resolve.specs.inner.Knowing.{AreLooked}
use Rattle.sa_resolve.specs.inner.Least.{fault_of, sooner}
use Rattle.sa_resolve.proofs.clauses.Clauses.group_fault.Given as goal

abbrev pub invariant-loop-tree : goal.invariant-loop-tree
invariant-loop-tree l = (clauses : Clauses) (ones : List Reading) → AreLooked l.self.group.items ones
    → fault_of l.fault ≡ sooner (least (too_many TooManyItems 8 (map (λ (tree : GroupTree). tree.place) l.trees)))
    (least (flat_map (group_item_faults clauses) (take (length l.yielded) (zip l.trees ones))))
