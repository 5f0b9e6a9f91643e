use Rattle.std.proofs.Common.{◌+◌, refl}
use Rattle.sa_script.proofs.InsertLemmas.{putting_more, stopped_at}
use Rattle.sa_script.proofs.insert.put_tuples.Goals as goal

pub returns-in-Err-clause-fault : goal.returns-in-Err-clause-fault
returns-in-Err-clause-fault c =
    stopped_at c.args.tables.now c.loop-values.tables c.args.table c.args.layout.now c.args.tuples c.loop-values.left.items c.pop.new.self.items
    c.loop-values.number (c.loop-values.number + 1) c.in-Some.field-0 c.in-Err.fault c.row_fault.result c.loop-values.invariant c.in-Some.ensures.items
    c.in-Err.ensures.fault refl c.row_fault.ensures

pub loop-values-preserved : goal.loop-values-preserved
loop-values-preserved c =
    putting_more c.args.tables.now c.loop-values.tables c.put_tuple.new.tables c.args.table c.args.layout.now c.args.tuples c.loop-values.left.items
    c.pop.new.self.items c.loop-values.number c.in-Some.field-0 c.loop-values.invariant c.in-Some.ensures.items
    c.in_default-put_tuple.ensures.faultless c.in_default-put_tuple.ensures.done
