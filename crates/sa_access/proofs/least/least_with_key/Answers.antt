use Rattle.std.proofs.Common.{◌≢◌, [], ◌∷◌, ◌+◌, sym, ap, ◌∙◌, subst}
use Rattle.sa_interval.specs.declared.list.RangeList.{RangeList}
use Rattle.sa_plan.specs.declared.access.AccessKind.TheVariants.{Range}
use Rattle.sa_access.specs.Asked.{Asked}
use Rattle.sa_access.specs.Offered.{all_tuples}
use Rattle.sa_access.specs.declared.offer.Offer.{Offer}
use Rattle.sa_access.specs.inner.Asking.{asked_at}
use Rattle.sa_access.specs.inner.Offer.{IsLeastBelow, MakesOffer, lesser_of, offer_of}
use Rattle.sa_access.proofs.LeastLemmas.{least_with_key}
use Rattle.sa_access.proofs.least.least_with_key.Goals as goal

pub returns : goal.returns
returns g c =
    let asked : Asked = asked_at c.args.asking.now in
    subst (IsLeastBelow asked (c.args.key + 1))
    (sym (c.lesser.ensures
    ∙ ap (λ (kept : Offer). lesser_of kept c.sought_offer.result)
    (c.lesser-ranged.ensures ∙ ap (λ (kept : Offer). lesser_of kept c.range_offer.result) c.lesser-indexed.ensures)))
    (least_with_key asked c.args.key c.requires.there.key c.args.kept c.requires.kept c.index_offer.result c.range_offer.result c.sought_offer.result
    c.index_offer.ensures
    (subst (λ (list : RangeList). MakesOffer (list.ranges ≢ all_tuples ∷ []) (offer_of asked Range c.args.key) c.range_offer.result) c.requires.list c.range_offer.ensures)
    c.sought_offer.ensures)
