use Rattle.std.proofs.Common.{ℕ, Option, option_map, sym, ap, ◌∙◌}
use Rattle.sa_query.specs.declared.group.Column.{Column}
use Rattle.sa_resolve.specs.Sight.{as_list, one, only_one}
use Rattle.sa_resolve.proofs.names.Qualified.{qualified-is}
use Rattle.sa_resolve.proofs.sight.Sight.qualified.Goals as goal

abbrev column : (table index : ℕ) → Column
column table index = record { table = table; column = index }

pub returns-in-None : goal.returns-in-None
returns-in-None c =
    λ tables from sight few. sym (qualified-is tables from c.args.self.now sight c.args.count c.args.alias.now c.args.name.now c.in-Some.table (c.in-Some.ensures tables from sight few)
    ∙ ap (λ (found : Option ℕ). only_one (as_list (option_map (column c.in-Some.table) found))) (sym c.in-None.ensures))

pub returns-in_ok-small-in-Some-column_in : goal.returns-in_ok-small-in-Some-column_in
returns-in_ok-small-in-Some-column_in c =
    λ tables from sight few. ap (λ (index : ℕ). one (column c.in-Some.table index)) c.in_ok-small-in-Some-column_in.ensures
    ∙ sym (qualified-is tables from c.args.self.now sight c.args.count c.args.alias.now c.args.name.now c.in-Some.table (c.in-Some.ensures tables from sight few)
    ∙ ap (λ (found : Option ℕ). only_one (as_list (option_map (column c.in-Some.table) found))) (sym c.in-Some-column_in.ensures))
