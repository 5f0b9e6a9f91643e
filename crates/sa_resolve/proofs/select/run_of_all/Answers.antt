use Rattle.std.proofs.Common.{◌≡◌, ◌≤◌, ◌∙◌, Some, length, refl, ap, sym, arith}
use Rattle.std.specs.List.{slice_get}
use Rattle.std.proofs.lemmas.Option.{slice_get_read}
use Rattle.sa_resolve.proofs.list.Stars.{whole_run, front_run}
use Rattle.sa_resolve.proofs.select.run_of_all.Goals as goal

pub returns-in-None : goal.returns-in-None
returns-in-None c = λ tables seen place sees.
    let same = ap length c.deref.ensures.value in
    let past = c.in-None.ensures.lookup.3 in
    let few : length c.args.scope.now.sight.now.sources.items ≤ c.args.scope.now.count = omega arith in
    whole_run tables seen sees.from c.args.scope.now.sight.now sees.sight c.args.scope.now.count sees.sources
    place
    c.len-count.result (c.len-count.ensures ∙ c.args.scope.now.sight.now.columns.ok.0) few

pub returns-in-Some : goal.returns-in-Some
returns-in-Some c = λ tables seen place sees.
    let there : slice_get c.deref.result.now c.args.scope.now.count ≡ Some c.in-Some.next.now =
    slice_get_read c.deref.result.now (length c.deref.result.now) c.args.scope.now.count c.in-Some.next.now
    refl
    c.in-Some.ensures.lookup.3.0 c.in-Some.ensures.lookup.1 in
    front_run tables seen sees.from c.args.scope.now.sight.now sees.sight c.args.scope.now.count sees.sources
    place c.in-Some.next.now
    (ap (λ all. slice_get all c.args.scope.now.count) (sym c.deref.ensures.value) ∙ there)
