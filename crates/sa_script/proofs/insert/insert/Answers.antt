use Rattle.std.proofs.Common.{◌≡◌, ap, subst, ◌∙◌}
use Rattle.sa_table.specs.declared.def.TableDef.{TableDef}
use Rattle.sa_table.specs.Table.{table_at}
use Rattle.sa_script.specs.declared.fault.ScriptFault.{ScriptFault}
use Rattle.sa_script.specs.Insert.{HasGoodNames, listed}
use Rattle.sa_script.specs.inner.Setup.{layout_of}
use Rattle.sa_script.proofs.InsertLemmas.{fails_tuple, inserts, on_both, on_fault}
use Rattle.sa_script.proofs.insert.insert.Goals as goal

pub returns-clause-inserted : goal.returns-clause-inserted
returns-clause-inserted c =
    let table = c.in_ok-number.number in
    let names : HasGoodNames (table_at c.args.tables.now table).def (listed c.args.tree.columns) =
    subst (λ (def : TableDef). HasGoodNames def (listed c.args.tree.columns)) c.def.ensures c.in_ok-check_names.ensures.good in
    let layout : c.in_ok-layout.layout ≡ layout_of (table_at c.args.tables.now table).def c.args.tree.columns =
    c.in_ok-layout.ensures ∙ ap (λ (def : TableDef). layout_of def c.args.tree.columns) c.def-2.ensures in
    on_both c.put_tuples.result _ _ _ c.put_tuples.ensures.faultless c.put_tuples.ensures.done
    (inserts c.args.tables.now c.put_tuples.new.tables c.args.tree table c.in_ok-layout.layout c.in_ok-number.ensures.named names layout)

pub returns-clause-fault : goal.returns-clause-fault
returns-clause-fault c =
    let table = c.in_ok-number.number in
    let names : HasGoodNames (table_at c.args.tables.now table).def (listed c.args.tree.columns) =
    subst (λ (def : TableDef). HasGoodNames def (listed c.args.tree.columns)) c.def.ensures c.in_ok-check_names.ensures.good in
    let layout : c.in_ok-layout.layout ≡ layout_of (table_at c.args.tables.now table).def c.args.tree.columns =
    c.in_ok-layout.ensures ∙ ap (λ (def : TableDef). layout_of def c.args.tree.columns) c.def-2.ensures in
    on_fault c.put_tuples.result _ _ c.put_tuples.ensures.fault
    (λ (answer : ScriptFault) bad. fails_tuple c.args.tables.now c.args.tree table c.in_ok-layout.layout answer c.in_ok-number.ensures.named names layout bad)
