use Rattle.std.proofs.Common.{◌≢◌, List, ℕ, refl, sym, subst, ◌∙◌}
use Rattle.std.specs.Prelude.{All}
use Rattle.sa_table.specs.Table.{Table}
use Rattle.sa_script.specs.declared.fault.ScriptFault.{ScriptFault}
use Rattle.sa_script.specs.Named.{IsUnknown}
use Rattle.sa_script.specs.inner.Tells.{Tells}
use Rattle.sa_script.proofs.NamedLemmas.{named_there, named_nowhere}
use Rattle.sa_script.proofs.named.table_named.Goals as goal

pub returns-in_default-clause-fault : goal.returns-in_default-clause-fault
returns-in_default-clause-fault c =
    subst (λ (answer : ScriptFault). Tells (IsUnknown c.args.tables.now c.args.name.now) answer) (sym c.at.ensures) (
      named_nowhere c.args.tables.now c.args.name.now.name
          (subst (λ (name : List ℕ). All (λ (table : Table). table.def.name ≢ name) c.args.tables.now) c.as_str.ensures c.in_default.ensures.absent),
      refl,
    )

pub returns-clause-named : goal.returns-clause-named
returns-clause-named c =
    named_there c.args.tables.now c.in-Some.table c.args.name.now.name c.len.ensures.sound c.in-Some.ensures.there (c.in-Some.ensures.found ∙ c.as_str.ensures)
