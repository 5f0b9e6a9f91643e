use Rattle.std.proofs.Common.{◌∙◌, ap, sym, subst, option_map, refl}
use Rattle.std.specs.List.{flat_map}
use Rattle.sa_resolve.specs.Selected.{star_of}
use Rattle.sa_resolve.specs.Sight.{as_list, source_named}
use Rattle.sa_resolve.specs.inner.Listing.{IsRun}
use Rattle.sa_resolve.proofs.list.Stars.{no_run, some_run}
use Rattle.sa_resolve.proofs.select.run_of.Goals as goal

pub returns-in-None : goal.returns-in-None
returns-in-None c = λ tables seen place sees.
    no_run tables seen sees.from c.args.scope.now.sight.now sees.sight c.args.scope.now.count sees.sources
    place
    (source_named seen.sources c.args.table.now.name)
    (sym c.in-None.is ∙ c.source_named.ensures tables sees.from sees.sight sees.within
    ∙ ap (λ sources. option_map (λ numbered. numbered.0) (source_named sources c.as_str.result.now))
    (sym sees.sources)
    ∙ ap (λ alias. option_map (λ numbered. numbered.0) (source_named seen.sources alias)) c.as_str.ensures)

pub returns-in-Some : goal.returns-in-Some
returns-in-Some c = λ tables seen place sees.
    subst (λ run. IsRun tables seen c.args.scope.now.sight.now place run (flat_map (star_of tables seen place)
    (as_list (source_named seen.sources c.args.table.now.name))))
    (sym c.run_at.ensures)
    (some_run tables seen sees.from c.args.scope.now.sight.now sees.sight c.args.scope.now.count sees.sources
    place c.in-Some.number
    c.args.table.now.name (source_named seen.sources c.args.table.now.name) refl
    (sym c.in-Some.is ∙ c.source_named.ensures tables sees.from sees.sight sees.within
    ∙ ap (λ sources. option_map (λ numbered. numbered.0) (source_named sources c.as_str.result.now))
    (sym sees.sources)
    ∙ ap (λ alias. option_map (λ numbered. numbered.0) (source_named seen.sources alias)) c.as_str.ensures))
