use Rattle.std.proofs.Common.{◌<◌, length, take, sym, ap, ◌∙◌, arith}
use Rattle.std.proofs.lemmas.List.{take_more}
use Rattle.sa_prepare.specs.Unbuilt.{earlier_of, least_place}
use Rattle.sa_prepare.proofs.PlaceLemmas.{least_place-push}
use Rattle.sa_prepare.proofs.place.Places.least.Goals as goal

pub loop-place-preserved : goal.loop-place-preserved
loop-place-preserved c =
    let places = c.deref-place-items.result.now in
    let i = c.loop-place.place-index in
    let there : i < length places = omega arith in
    c.earlier-least.ensures ∙ ap (earlier_of _) c.loop-place.invariant
    ∙ sym (ap least_place (take_more places i 0 there) ∙ least_place-push (take i places) _)
