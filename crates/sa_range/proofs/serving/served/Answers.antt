use Rattle.std.proofs.Common.{◌<◌, [], List, length, take, get_or, option_map, flat_map, sym, ap, ap₂, ◌∙◌, arith}
use Rattle.std.proofs.lemmas.List.{get_or_default}
use Rattle.sa_range.specs.declared.line.Piece.{Piece}
use Rattle.sa_range.specs.RangeList.{sequences}
use Rattle.sa_range.specs.inner.Longer.{at_most, longer_of}
use Rattle.sa_range.proofs.Levels.{serving_more, serving_stops}
use Rattle.sa_range.proofs.serving.served.Goals as goal

pub returns-in-None-clause-parts : goal.returns-in-None-clause-parts
returns-in-None-clause-parts c =
    let here : c.loop-index.index < length c.args.parts.now = omega arith in
    serving_stops c.args.filter.now c.args.table c.args.parts.now c.loop-index.index (get_or c.args.parts.now c.loop-index.index 0) c.loop-index.walks.items here
    (get_or_default c.args.parts.now c.loop-index.index 0 (get_or c.args.parts.now c.loop-index.index 0) here) c.loop-index.invariant
    (ap (option_map (λ more. more.items)) (sym c.in-None.is) ∙ c.in_ok-longer.ensures
    ∙ ap₂ (λ (line : List Piece) (walks : List (List Piece)). at_most (flat_map (longer_of c.args.filter.now c.args.table (take c.loop-index.index c.args.parts.now) (get_or c.args.parts.now c.loop-index.index 0) line) walks))
    (c.as_slice.ensures.value ∙ c.in_ok-line.ensures) c.as_slice-in-loop-index.ensures.value)

pub returns-in-None-clause-walks : goal.returns-in-None-clause-walks
returns-in-None-clause-walks c =
    c.loop-index.invariant.found
    ∙ ap (λ count. sequences c.args.filter.now c.args.table [] (take count c.args.parts.now)) (returns-in-None-clause-parts c)

pub loop-index-preserved : goal.loop-index-preserved
loop-index-preserved c =
    let here : c.loop-index.index < length c.args.parts.now = omega arith in
    serving_more c.args.filter.now c.args.table c.args.parts.now c.loop-index.index (get_or c.args.parts.now c.loop-index.index 0) c.loop-index.walks.items here
    (get_or_default c.args.parts.now c.loop-index.index 0 (get_or c.args.parts.now c.loop-index.index 0) here) c.loop-index.invariant
    c.in-Some.more.items
    (ap (option_map (λ more. more.items)) (sym c.in-Some.is) ∙ c.in_ok-longer.ensures
    ∙ ap₂ (λ (line : List Piece) (walks : List (List Piece)). at_most (flat_map (longer_of c.args.filter.now c.args.table (take c.loop-index.index c.args.parts.now) (get_or c.args.parts.now c.loop-index.index 0) line) walks))
    (c.as_slice.ensures.value ∙ c.in_ok-line.ensures) c.as_slice-in-loop-index.ensures.value)
