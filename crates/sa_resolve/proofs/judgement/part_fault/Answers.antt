use Rattle.std.proofs.Common.{◌∙◌, ap, sym, subst, take, drop, option_map}
use Rattle.std.proofs.lemmas.List.{append-nil}
use Rattle.std.specs.List.{flat_map}
use Rattle.sa_resolve.specs.Fault.{least}
use Rattle.sa_resolve.specs.Faults.{own_faults}
use Rattle.sa_resolve.specs.Selected.{Selected, items_at}
use Rattle.sa_resolve.specs.inner.Building.{slots_at}
use Rattle.sa_resolve.specs.inner.Least.{fault_of}
use Rattle.sa_resolve.specs.inner.Listing.{IsChosen}
use Rattle.sa_resolve.proofs.list.Choosing.{one_item}
use Rattle.sa_resolve.proofs.list.Judging.{star_judged}
use Rattle.sa_resolve.proofs.judgement.part_fault.Goals as goal

pub returns-in-Value : goal.returns-in-Value
returns-in-Value c = λ clauses tables scope sight first tree slots columns is.
    let items = items_at tables scope tree.place tree.item in
    let one = one_item tables scope sight tree.place c.in-Value.value items
    (subst (λ chosen. IsChosen tables scope sight tree.place chosen items) c.in-Value.is is.chosen) in
    c.own_fault.ensures clauses one.item.item slots one.is.looked
    ∙ ap least (sym (append-nil (own_faults clauses one.item.item)))
    ∙ ap (λ items. least (flat_map (λ (one : Selected). own_faults clauses one.item) items))
    (sym one.items_are)

pub returns-in-Columns : goal.returns-in-Columns
returns-in-Columns c = λ clauses tables scope sight first tree slots columns is.
    let items = items_at tables scope tree.place tree.item in
    star_judged tables scope sight clauses tree.place c.in-Columns.run' items
    (subst (λ chosen. IsChosen tables scope sight tree.place chosen items) c.in-Columns.is is.chosen)
    (option_map slots_at c.args.slots.now) slots c.args.part.now.place is.place c.of.result.now
    (c.of.ensures ∙ ap (λ all. take c.in-Columns.run'.count (drop c.in-Columns.run'.first all)) columns)
    (fault_of c.loose_star.result) c.loose_star.ensures
