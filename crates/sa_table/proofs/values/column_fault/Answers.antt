use Rattle.std.proofs.Common.{sym, ◌∙◌, arith}
use Rattle.sa_table.proofs.ColumnFaultLemmas.{fault_here, fault_later, faults_end}
use Rattle.sa_table.proofs.values.column_fault.Goals as goal

pub returns-in-Some : goal.returns-in-Some
returns-in-Some c =
    sym (fault_here c.args.columns.now c.args.row.now c.loop-column.column c.index-columns-column.result c.index-row-column.result c.in-Some.fault c.requires.wide (omega arith)
    (rw (sym c.index-columns-column.is, sym c.index-row-column.is) (sym c.in-Some.ensures)))
    ∙ c.loop-column.invariant

pub loop-column-preserved : goal.loop-column-preserved
loop-column-preserved c =
    sym (fault_later c.args.columns.now c.args.row.now c.loop-column.column c.index-columns-column.result c.index-row-column.result c.requires.wide (omega arith)
    (rw (sym c.index-columns-column.is, sym c.index-row-column.is) (sym c.value_fault.ensures ∙ c.in_default.is)))
    ∙ c.loop-column.invariant

pub returns : goal.returns
returns c = sym (faults_end c.args.columns.now c.args.row.now c.loop-column.column c.requires.wide (omega arith)) ∙ c.loop-column.invariant
