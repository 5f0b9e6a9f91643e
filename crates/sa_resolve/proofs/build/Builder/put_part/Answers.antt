use Rattle.std.proofs.Common.{◌∙◌, [], ◌∷◌, ◌++◌, ap, map, subst, sym}
use Rattle.std.proofs.lemmas.Result.{on_ok_weaker}
use Rattle.sa_resolve.specs.Resolved.{query_item}
use Rattle.sa_resolve.specs.Selected.{items_at}
use Rattle.sa_resolve.specs.inner.Listing.{IsChosen}
use Rattle.sa_resolve.proofs.list.Choosing.{one_item}
use Rattle.sa_resolve.proofs.list.Items.{star_items}
use Rattle.sa_resolve.proofs.build.Builder.put_part.Goals as goal

pub returns-in-Columns : goal.returns-in-Columns
returns-in-Columns c = λ tables seen first tree sees last is.
    let sight = c.args.self.now.scope.sight.now in
    let items = items_at tables seen tree.place tree.item in
    on_ok_weaker c.put_columns.result
    (λ put. put ∙ ap (λ more. c.args.items.now.items ++ more)
    (star_items tables seen sight tree.place c.in-Columns.run' items
    (subst (λ chosen. IsChosen tables seen sight tree.place chosen items) c.in-Columns.is is.chosen)))
    (c.put_columns.ensures tables seen tree.place last)

pub returns-in_ok-push-in-Value : goal.returns-in_ok-push-in-Value
returns-in_ok-push-in-Value c = λ tables seen first tree sees last is.
    let sight = c.args.self.now.scope.sight.now in
    let items = items_at tables seen tree.place tree.item in
    let one = one_item tables seen sight tree.place c.in-Value.value items
    (subst (λ chosen. IsChosen tables seen sight tree.place chosen items) c.in-Value.is is.chosen) in
    c.in_ok-push-in-Value.ensures.items
    ∙ ap (λ item. c.args.items.now.items ++ item ∷ []) (c.in_ok-value-in-Value.ensures tables seen one.item
    sees last one.is)
    ∙ ap (λ items. c.args.items.now.items ++ map query_item items) (sym one.items_are)
