use Rattle.std.proofs.Common.{◌∙◌, ◌+◌, ℕ, ap, subst, arith}
use Rattle.csv.specs.Records.{fields_of}
use Rattle.sa_load.specs.Csv.{records_of}
use Rattle.sa_load.specs.inner.Reading.{TakesNext}
use Rattle.sa_load.proofs.Takes.{starts}
use Rattle.sa_load.proofs.Loading.{loading_none, loading_more, loads_all, loads_to_fault, stopped}
use Rattle.sa_load.proofs.load.load_csv.Goals as goal

pub loop-record-init : goal.loop-record-init
loop-record-init c =
    let made = c.from_reader-reader.ensures in
    let builder = c.flexible.ensures in
    let headers = c.has_headers.ensures in
    let plain = c.new.ensures in
    loading_none c.args.tables.now c.args.table (records_of c.args.bytes.now) _ c.requires.there
    (starts _ c.args.bytes.now
    (rw (builder, headers) at made.trim ∙ plain.trim)
    (rw (builder, headers) at made.has_headers)
    made.headers
    (rw (builder, headers) at made.config ∙ plain.config)
    made.state
    made.source)

pub returns-in-Err-clause-loads : goal.returns-in-Err-clause-loads
returns-in-Err-clause-loads c =
    let loading = c.loop-record.invariant in
    let fields = fields_of c.take_record.new.record in
    let takes = subst (λ found. TakesNext loading.left found fields c.take_record.new.reader) c.if-branch.true (c.in_ok-take_record.ensures.next loading.left loading.reading) in
    stopped c.args.tables.now c.loop-record.tables c.add_record.new.tables c.args.table (records_of c.args.bytes.now) _ _ c.in-Err.ensures.err c.at.ensures
    (loads_to_fault c.args.tables.now c.loop-record.tables c.args.table (records_of c.args.bytes.now) c.loop-record.loaded fields
    c.loop-record.reader c.take_record.new.reader _ c.in-Err.refusal loading takes c.in-Err.ensures.refused (ap (λ (n : ℕ). n + 1) c.from.ensures))

pub loop-record-smaller : goal.loop-record-smaller
loop-record-smaller c =
    let loading = c.loop-record.invariant in
    let fields = fields_of c.take_record.new.record in
    let takes = subst (λ found. TakesNext loading.left found fields c.take_record.new.reader) c.if-branch.true (c.in_ok-take_record.ensures.next loading.left loading.reading) in
    let more = loading_more c.args.tables.now c.loop-record.tables c.add_record.new.tables c.args.table (records_of c.args.bytes.now) c.loop-record.loaded fields
    c.loop-record.reader c.take_record.new.reader loading takes c.in_default.ensures.faultless c.in_default.ensures.ok in
    omega (arith, more.few)

pub loop-record-preserved : goal.loop-record-preserved
loop-record-preserved c =
    let loading = c.loop-record.invariant in
    let fields = fields_of c.take_record.new.record in
    let takes = subst (λ found. TakesNext loading.left found fields c.take_record.new.reader) c.if-branch.true (c.in_ok-take_record.ensures.next loading.left loading.reading) in
    loading_more c.args.tables.now c.loop-record.tables c.add_record.new.tables c.args.table (records_of c.args.bytes.now) c.loop-record.loaded fields
    c.loop-record.reader c.take_record.new.reader loading takes c.in_default.ensures.faultless c.in_default.ensures.ok

pub returns-clause-loads : goal.returns-clause-loads
returns-clause-loads c =
    let loading = c.loop-record.invariant in
    let fields = fields_of c.take_record.new.record in
    let none = subst (λ found. TakesNext loading.left found fields c.take_record.new.reader) c.if-branch.false (c.in_ok-take_record.ensures.next loading.left loading.reading) in
    loads_all c.args.tables.now c.loop-record.tables c.args.table (records_of c.args.bytes.now) c.loop-record.loaded
    c.loop-record.reader c.take_record.new.reader fields loading none
