use Rattle.std.proofs.Common.{◌≡◌, ℕ, length, Some, sym, ap, ◌∙◌}
use Rattle.std.specs.Prelude.{slice_get}
use Rattle.sa_table.specs.declared.def.TableDef.{TableDef}
use Rattle.sa_table.specs.declared.fault.TableFault.TheVariants as faults
use Rattle.sa_table.specs.Create.{first_or, table_faults}
use Rattle.sa_script.specs.inner.Setup.{limits_passed}
use Rattle.sa_script.proofs.CreateLemmas.{limit_told, small, tells_first, tells_refusal}
use Rattle.sa_script.proofs.create.create.Goals as goal

pub returns-in-Some-clause-fault : goal.returns-in-Some-clause-fault
returns-in-Some-clause-fault c =
    let first : slice_get (limits_passed (length c.args.tables.now) c.args.tree) 0 ≡ Some c.in-Some.fault =
    ap (λ (n : ℕ). slice_get (limits_passed n c.args.tree) 0) (sym c.len.ensures.number) ∙ sym c.limit_fault.ensures ∙ c.in-Some.is in
    tells_first c.args.tables.now c.args.tree c.in-Some.fault _ c.definition_fault.ensures (limit_told c.args.tables.now c.args.tree c.in-Some.fault first)

pub table_def-requires : goal.table_def-requires
table_def-requires c = small c.len.result c.args.tree (sym c.limit_fault.ensures ∙ c.in_default.is)

pub returns-clause-fault : goal.returns-clause-fault
returns-clause-fault c =
    tells_refusal c.args.tables.now c.args.tree c.in-Err.fault _ c.definition_fault-in-Err.ensures
    (c.in-Err.ensures.fault ∙ ap (λ (def : TableDef). first_or faults.OutOfMemory (table_faults c.args.tables.now def)) c.in_ok-def.ensures)
