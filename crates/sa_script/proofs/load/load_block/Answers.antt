use Rattle.std.proofs.Common.{◌≡◌, ℕ, List, true, false, Some, Ok, ap, ◌∙◌, subst}
use Rattle.std.specs.Prelude.{slice_range}
use Rattle.std.specs.Str.{IsUtf8}
use Rattle.std.proofs.lemmas.Str.{IsUtf8-between}
use Rattle.sa_load.specs.Csv.{records_of}
use Rattle.sa_load.specs.Load as csv
use Rattle.sa_table.specs.Table.{table_at}
use Rattle.sa_script.specs.declared.fault.ScriptFault.TheVariants.{Bad}
use Rattle.sa_script.specs.declared.fault.ScriptKind.TheVariants.{NotUtf8}
use Rattle.sa_script.proofs.Blocks.{utf8_ends, not_utf8_told, block_loaded}
use Rattle.sa_script.proofs.load.load_block.Goals as goal

pub returns-then-not-is_char_boundary-clause-fault :
    goal.returns-then-not-is_char_boundary-clause-fault
returns-then-not-is_char_boundary-clause-fault c =
    let script = c.args.script.now in
    let start = c.args.block.start in
    let end = c.args.block.end in
    let before = table_at c.args.tables.now c.args.table in
    let after = table_at c.load_csv.new.tables c.args.table in
    let loads : csv.Loads before (records_of (slice_range script start end)) after (Ok c.in-Ok.loaded) =
    subst (λ (bytes : List ℕ). csv.Loads before (records_of (slice_range bytes start end)) after (Ok c.in-Ok.loaded)) c.as_bytes.ensures.value c.in-Ok.ensures.loads in
    let not_utf8 : IsUtf8 (slice_range script start end) → ⊥ = λ utf8.
    let yes : c.is_char_boundary.result ≡ true = c.is_char_boundary.ensures.test.1 (utf8_ends script start end c.utf8.script c.requires.from c.requires.to c.requires.cut utf8) in
    let no : c.is_char_boundary.result ≡ false = c.if-not-is_char_boundary.true in
    absurd cc in
    not_utf8_told script start end c.in-Ok.loaded before after c.of_row.result
    (c.of_row.ensures ∙ ap (λ (n : ℕ). Bad NotUtf8 start (Some n)) c.from-record.ensures) loads not_utf8

pub returns-clause-loads : goal.returns-clause-loads
returns-clause-loads c =
    let script = c.args.script.now in
    let start = c.args.block.start in
    let end = c.args.block.end in
    let before = table_at c.args.tables.now c.args.table in
    let after = table_at c.load_csv.new.tables c.args.table in
    let loads : csv.Loads before (records_of (slice_range script start end)) after (Ok c.in-Ok.loaded) =
    subst (λ (bytes : List ℕ). csv.Loads before (records_of (slice_range bytes start end)) after (Ok c.in-Ok.loaded)) c.as_bytes.ensures.value c.in-Ok.ensures.loads in
    let yes : c.is_char_boundary.result ≡ true = c.if-not-is_char_boundary.false in
    block_loaded script start end c.in-Ok.loaded before after loads
    (IsUtf8-between script start end c.utf8.script c.requires.from c.requires.cut (c.is_char_boundary.ensures.test.0 yes))
