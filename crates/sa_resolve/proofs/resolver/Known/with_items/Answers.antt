use Rattle.std.proofs.Common.{[], Some, sym, ap, ◌∙◌}
use Rattle.sa_resolve.specs.Clauses.{clauses_with, select_scope}
use Rattle.sa_resolve.specs.Faults.{faults_with}
use Rattle.sa_resolve.specs.inner.Judging.{AreItems}
use Rattle.sa_resolve.specs.inner.Least.{fault_in, fault_of}
use Rattle.sa_resolve.proofs.names.Seeing.{Sees-rows}
use Rattle.sa_resolve.proofs.judging.AllFaults.{all_right, list_right, right_list}
use Rattle.sa_resolve.proofs.judging.Values.{values_right}
use Rattle.sa_resolve.proofs.resolver.Known.with_items.Goals as goal

pub returns-in-Some-clause-fault : goal.returns-in-Some-clause-fault
returns-in-Some-clause-fault c = λ tables found ready right.
    let self = c.args.self.now in
    let tree = self.tree.now in
    let reader = ready.reader in
    let made : AreItems tables tree found c.in_ok-items.items.items =
    c.in_ok-items.ensures tables (select_scope tables tree found) tree.items
    (Sees-rows tables tree.from [] found self.reader.rows reader.sight reader.count reader.seeks) (sym ready.slots_are) reader.select in
    c.told.ensures (faults_with tables tree (clauses_with tables tree found))
    (right_list tables tree (clauses_with tables tree found) (Some (fault_in c.in-Some.fault)) right
    (ap fault_of (sym c.in-Some.is) ∙ c.in_ok-fault.ensures tables found ready (c.as_slice.ensures.value ∙ made)))

pub returns-in_ok-built-in-None-clause-query : goal.returns-in_ok-built-in-None-clause-query
returns-in_ok-built-in-None-clause-query c = λ tables found ready right.
    let self = c.args.self.now in
    let tree = self.tree.now in
    let reader = ready.reader in
    let made : AreItems tables tree found c.in_ok-items.items.items =
    c.in_ok-items.ensures tables (select_scope tables tree found) tree.items
    (Sees-rows tables tree.from [] found self.reader.rows reader.sight reader.count reader.seeks) (sym ready.slots_are) reader.select in (
      all_right tables tree (clauses_with tables tree found) right (ap fault_of (sym c.in-None.is) ∙ c.in_ok-fault.ensures tables found ready (c.as_slice.ensures.value ∙ made)),
      c.in_ok-built-in-None.ensures tables found ready made (values_right tables tree found (list_right tables tree (clauses_with tables tree found) right)),
    )
