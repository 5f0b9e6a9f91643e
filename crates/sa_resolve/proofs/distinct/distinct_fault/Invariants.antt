use Rattle.std.proofs.Common.{◌≡◌, List, length, map, take, option_map, is_some}
use Rattle.std.specs.List.{flat_map, zip}
use Rattle.std.specs.Option.{IfSome}
use Rattle.sa_ast.specs.declared.select.OrderTree.{OrderTree}
use Rattle.sa_table.specs.Table.{Table}
use Rattle.sa_resolve.specs.Clauses.{Clauses, slots_of}
use Rattle.sa_resolve.specs.Expression.{Scope}
use Rattle.sa_resolve.specs.Fault.{least}
use Rattle.sa_resolve.specs.Faults.{distinct_faults}
use Rattle.sa_resolve.specs.Resolved.{query_item}
use Rattle.sa_resolve.specs.inner.Building.{IsLast, placed, slots_at}
use Rattle.sa_resolve.specs.inner.Knowing.{AreLooked}
use Rattle.sa_resolve.specs.inner.Least.{fault_of}
use Rattle.sa_resolve.specs.inner.Names.{Sees}
use Rattle.sa_resolve.proofs.distinct.distinct_fault.Given as goal

abbrev pub invariant-loop-tree : goal.invariant-loop-tree
invariant-loop-tree l = (clauses : Clauses) (tables : List Table) (scope : Scope)
    → option_map slots_at l.slots ≡ slots_of clauses
    → Sees tables scope clauses.select l.builder.scope
    → IfSome l.items (λ _. IsLast scope clauses.select l.builder.stage)
    → IfSome l.items (λ values. map query_item clauses.select ≡ values.now)
    → clauses.order ≡ map (λ (tree : OrderTree). placed tables scope clauses.select tree.value) l.trees
    → AreLooked l.order clauses.order
    → fault_of l.fault ≡ least (flat_map (distinct_faults clauses (is_some l.items)) (take (length l.yielded) (zip l.trees clauses.order)))
