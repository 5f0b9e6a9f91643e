use Rattle.std.proofs.Common.{sym, ◌∙◌}
use Rattle.sa_resolve.specs.Clauses.{clauses_with}
use Rattle.sa_resolve.specs.Faults.{faults_with}
use Rattle.sa_resolve.specs.inner.Least.{fault_in, fault_of}
use Rattle.sa_resolve.proofs.judging.AllFaults.{wrong_list}
use Rattle.sa_resolve.proofs.resolver.Known.query.Goals as goal

pub returns-in-None-clause-query : goal.returns-in-None-clause-query
returns-in-None-clause-query c = λ tables found ready.
    c.with_items.ensures.query tables found ready
    (c.in-None.ensures tables c.args.self.now.tree.now found c.args.self.now.reader.rows.sight.now ready.clauses_are
    (ready.slots_are ∙ sym ready.settled) c.as_slice-columns.ensures.value)

pub returns-in-None-clause-fault : goal.returns-in-None-clause-fault
returns-in-None-clause-fault c = λ tables found ready.
    c.with_items.ensures.fault tables found ready
    (c.in-None.ensures tables c.args.self.now.tree.now found c.args.self.now.reader.rows.sight.now ready.clauses_are
    (ready.slots_are ∙ sym ready.settled) c.as_slice-columns.ensures.value)

pub returns-in_ok-other-in-Some-clause-fault : goal.returns-in_ok-other-in-Some-clause-fault
returns-in_ok-other-in-Some-clause-fault c = λ tables found ready.
    let self = c.args.self.now in
    let tree = self.tree.now in
    c.told.ensures (faults_with tables tree (clauses_with tables tree found))
    (wrong_list tables tree (clauses_with tables tree found) (fault_in c.in-Some.fault) (fault_of c.in_ok-other-in-Some.other)
    (c.in-Some.ensures tables tree found self.reader.rows.sight.now ready.clauses_are (ready.slots_are ∙ sym ready.settled) c.as_slice-columns.ensures.value)
    (c.in_ok-other-in-Some.ensures tables found ready tt))
