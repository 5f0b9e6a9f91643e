use Rattle.std.proofs.Common.{◌∙◌, refl, ap}
use Rattle.std.proofs.lemmas.Result.{on_ok_weaker}
use Rattle.sa_resolve.specs.inner.Least.{fault_of, sooner}
use Rattle.sa_resolve.proofs.list.Listing.{list_more}
use Rattle.sa_resolve.proofs.select.SelectList.put_item.Goals as goal

pub returns : goal.returns
returns c = λ tables seen trees sees is.
    let chooses = c.in_ok-chosen.ensures tables seen sees in
    on_ok_weaker c.put.result
    (λ puts. (
      list_more tables seen c.args.scope.now.sight.now trees c.args.item.now c.args.self.now _ c.put.new.self
          c.in_ok-chosen.chosen
          c.args.aggregates.now.items c.choice.new.aggregates.items is refl refl
          (c.sooner-self.ensures ∙ ap (sooner (fault_of c.args.self.now.fault))
          (c.star_fault.ensures tables seen sees))
          chooses puts,
      chooses.aggregates,
    ))
    c.put.ensures
