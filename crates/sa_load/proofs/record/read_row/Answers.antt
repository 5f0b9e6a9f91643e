use Rattle.std.proofs.Common.{ap, arith, length}
use Rattle.std.proofs.lemmas.Result.{err_from_is_err_and}
use Rattle.csv.specs.Records.{fields_of}
use Rattle.sa_load.proofs.RecordCauses.{next_is, read_refused, read_more, tells_from}
use Rattle.sa_load.proofs.record.read_row.Goals as goal

pub returns-in_err-read_field : goal.returns-in_err-read_field
returns-in_err-read_field c =
    let columns = c.as_slice-columns.ensures in
    let next = next_is c.loop-column.column c.args.def.now.columns (fields_of c.args.record.now) _ _
    (omega (arith, ap length columns)) c.requires.wide (rw columns at c.index-columns-column.is) c.field_in-field.ensures in
    let p = err_from_is_err_and c.from_residual-in_err-read_field.result c.from_residual-in_err-read_field.ensures.1 in
    rw (p.1, p.2)
    (tells_from _ _ _ (λ cause. read_refused c.loop-column.column c.args.def.now.columns (fields_of c.args.record.now) _ _ _ cause c.loop-column.invariant next)
    c.in_err-read_field.ensures)

pub loop-column-preserved : goal.loop-column-preserved
loop-column-preserved c =
    let columns = c.as_slice-columns.ensures in
    let next = next_is c.loop-column.column c.args.def.now.columns (fields_of c.args.record.now) _ _
    (omega (arith, ap length columns)) c.requires.wide (rw columns at c.index-columns-column.is) c.field_in-field.ensures in
    let value = c.in_ok-read_field.ensures in
    rw c.in_ok-push.ensures.items
    (read_more c.loop-column.column c.args.def.now.columns (fields_of c.args.record.now) _ _ _ _ c.loop-column.invariant next value.0 value.1)
