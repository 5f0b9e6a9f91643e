use Rattle.std.proofs.Common.{◌≡◌, List, Option, option_map, take}
use Rattle.std.specs.List.{flat_map}
use Rattle.sa_ast.specs.declared.select.SelectTree.{SelectTree}
use Rattle.sa_table.specs.Table.{Table}
use Rattle.sa_resolve.specs.declared.sight.Sight.{Sight}
use Rattle.sa_resolve.specs.Clauses.{clauses_with, select_scope, slots_of}
use Rattle.sa_resolve.specs.Fault.{least}
use Rattle.sa_resolve.specs.Faults.{own_faults}
use Rattle.sa_resolve.specs.Node.{Slots}
use Rattle.sa_resolve.specs.Selected.{Selected, selected}
use Rattle.sa_resolve.specs.inner.Building.{slots_at}
use Rattle.sa_resolve.specs.inner.Knowing.{AreKnown}
use Rattle.sa_resolve.specs.inner.Least.{fault_of, sooner}
use Rattle.sa_resolve.proofs.clauses.Clauses.select_fault.Given as goal

abbrev pub invariant-loop-part : goal.invariant-loop-part
invariant-loop-part l =
    (tables : List Table) (tree : SelectTree) (found : Option Slots) (sight : Sight)
    → AreKnown tables tree found sight l.self
    → option_map slots_at l.slots ≡ slots_of (clauses_with tables tree found)
    → l.columns ≡ sight.columns.items
    → fault_of l.fault ≡ sooner (fault_of l.self.select.now.fault)
    (least (flat_map (λ (one : Selected). own_faults (clauses_with tables tree found) one.item)
    (selected tables (select_scope tables tree found) (take l.part-index tree.items))))
