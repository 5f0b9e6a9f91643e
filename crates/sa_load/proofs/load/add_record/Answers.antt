use Rattle.std.proofs.Common.{ap, ◌∙◌, slice_set}
use Rattle.std.proofs.lemmas.Result.{err_from_is_err_and}
use Rattle.csv.specs.Records.{fields_of}
use Rattle.sa_table.specs.Table.{table_at}
use Rattle.sa_load.proofs.RowCauses.{tells_key, record_causes-none, with_row-record}
use Rattle.sa_load.proofs.load.add_record.Goals as goal

pub returns-in_err-add_row-clause-refused : goal.returns-in_err-add_row-clause-refused
returns-in_err-add_row-clause-refused c =
    let at = table_at c.args.tables.now c.args.table in
    let row = c.in_ok-row.ensures in
    let p = err_from_is_err_and c.from_residual-in_err-add_row.result c.from_residual-in_err-add_row.ensures.1 in
    rw (p.1, p.2) (tells_key at (fields_of c.args.record.now) _ row.0 (rw row.1 at c.in_err-add_row.ensures.fault))

pub returns-clause-faultless : goal.returns-clause-faultless
returns-clause-faultless c =
    let at = table_at c.args.tables.now c.args.table in
    let row = c.in_ok-row.ensures in
    record_causes-none at (fields_of c.args.record.now) row.0 (rw row.1 at c.in_ok-add_row.ensures.faultless)

pub returns-clause-ok : goal.returns-clause-ok
returns-clause-ok c =
    let at = table_at c.args.tables.now c.args.table in
    let row = c.in_ok-row.ensures in
    c.in_ok-add_row.ensures.ok
    ∙ rw row.1 (ap (slice_set c.args.tables.now c.args.table) (with_row-record at (fields_of c.args.record.now)))
