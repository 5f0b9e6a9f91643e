use Rattle.std.proofs.Common.{◌≡◌, ◌∙◌, ◌++◌, ◌∷◌, [], sym, ap, subst}
use Rattle.sa_table.specs.Create.{table_faults}
use Rattle.sa_table.specs.Sound.{AreSound}
use Rattle.sa_table.specs.inner.First.{first}
use Rattle.sa_table.proofs.FirstLemmas.{nil_from_first}
use Rattle.sa_table.proofs.SoundLemmas.{sound_more}
use Rattle.sa_table.proofs.tables.Tables.create.Goals as goal

pub invariant_of-self-2 : goal.invariant_of-self-2
invariant_of-self-2 c =
    let tables = c.self.inside.tables.items in
    let none : table_faults tables c.args.def ≡ [] =
    nil_from_first _ (ap (λ tables. first (table_faults tables c.args.def)) (sym c.deref.ensures.value) ∙ sym c.table_fault.ensures ∙ c.in_default.is) in
    subst AreSound (sym (c.push_reserved.ensures.items ∙ ap (λ tables. tables ++ c.in_ok-table.table ∷ []) c.reserve.ensures.items))
    (sound_more tables c.args.def c.in_ok-table.table c.self.invariant none c.in_ok-table.ensures.made c.in_ok-table.ensures.sound)
