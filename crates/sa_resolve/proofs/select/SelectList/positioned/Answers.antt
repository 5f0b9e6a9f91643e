use mir.Syntax.{w128}
use Rattle.std.proofs.Common.{◌∙◌, ap, sym, option_map}
use Rattle.std.proofs.lemmas.Int.{to_z-of_z}
use Rattle.sa_resolve.specs.Clauses.{item_at, positioned}
use Rattle.sa_resolve.specs.Selected.{Selected, selected}
use Rattle.sa_resolve.specs.inner.Gist.{gist_at, gist_of}
use Rattle.sa_resolve.proofs.list.Positions.{found_there, none_there, wrong_there}
use Rattle.sa_resolve.proofs.select.SelectList.positioned.Goals as goal

pub returns-in-None : goal.returns-in-None
returns-in-None c = λ tables seen trees is.
    let found = item_at (selected tables seen trees) c.args.number in
    let none = none_there c.args.place found (sym (ap (option_map gist_at) c.in-None.is)
    ∙ (c.found.ensures tables seen trees is
    ∙ ap (λ n. option_map (λ (one : Selected). gist_of one.item) (item_at (selected tables seen trees) n))
    (to_z-of_z w128 c.args.number c.ranges.number))) in
    wrong_there c.args.place (gist_at c.wrong.result) c.wrong.ensures
    ∙ ap (λ found. gist_of (positioned c.args.place found)) (sym none)

pub returns-in-Some : goal.returns-in-Some
returns-in-Some c = λ tables seen trees is.
    c.named.ensures
    ∙ found_there c.args.place (item_at (selected tables seen trees) c.args.number) (gist_at c.in-Some.facts)
    (sym (ap (option_map gist_at) c.in-Some.is) ∙ (c.found.ensures tables seen trees is
    ∙ ap (λ n. option_map (λ (one : Selected). gist_of one.item) (item_at (selected tables seen trees) n))
    (to_z-of_z w128 c.args.number c.ranges.number)))
