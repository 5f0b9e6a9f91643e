use Rattle.std.proofs.Common.{◌∙◌, [], ◌∷◌, not, ap, sym, option_map}
use Rattle.std.specs.List.{flat_map, list_any}
use Rattle.sa_query.specs.declared.refusal.ResolveKind.TheVariants.{GroupRule}
use Rattle.sa_resolve.specs.Fault.{least, told}
use Rattle.sa_resolve.specs.Same.{same_column}
use Rattle.sa_resolve.specs.inner.Building.{slots_at}
use Rattle.sa_resolve.specs.inner.Grouped.{loose_by}
use Rattle.sa_resolve.proofs.list.Grouping.{any_told, none_told}
use Rattle.sa_resolve.proofs.grouping.loose_star.Goals as goal

pub returns-in-None : goal.returns-in-None
returns-in-None c =
    none_told c.args.columns.now
    ∙ ap (λ slots. least (flat_map (λ column. loose_by (option_map slots_at slots)
    ((c.args.place, column) ∷ [])) c.args.columns.now)) (sym c.in-None.is)

pub returns-in-Some : goal.returns-in-Some
returns-in-Some c =
    c.told.ensures
    ∙ ap (λ stands. least (told stands GroupRule c.args.place)) c.has_loose.ensures
    ∙ any_told (λ column. not (list_any (same_column column) c.in-Some.slots.group.items)) GroupRule
    c.args.place c.args.columns.now
    ∙ ap (λ slots. least (flat_map (λ column. loose_by (option_map slots_at slots)
    ((c.args.place, column) ∷ [])) c.args.columns.now)) (sym c.in-Some.is)
