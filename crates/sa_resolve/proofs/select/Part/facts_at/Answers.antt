use Rattle.std.proofs.Common.{◌≡◌, ◌∙◌, Some, length, take, drop, refl, ap, sym, subst}
use Rattle.std.specs.List.{slice_get}
use Rattle.std.proofs.lemmas.Option.{slice_get_read}
use Rattle.sa_resolve.specs.Selected.{items_at}
use Rattle.sa_resolve.specs.inner.Listing.{IsChosen}
use Rattle.sa_resolve.proofs.list.Choosing.{column_known}
use Rattle.sa_resolve.proofs.select.Part.facts_at.Goals as goal

pub returns-in_ok-column-in-Columns : goal.returns-in_ok-column-in-Columns
returns-in_ok-column-in-Columns c = λ tables seen first tree is few.
    let there : slice_get c.of.result.now c.args.offset ≡ Some c.in_ok-column-in-Columns.field-0.now =
    slice_get_read c.of.result.now (length c.of.result.now) c.args.offset
    c.in_ok-column-in-Columns.field-0.now refl
    c.in_ok-column-in-Columns.ensures.lookup.3.0 c.in_ok-column-in-Columns.ensures.lookup.1 in
    column_known tables seen c.args.scope.now.sight.now tree.place c.in-Columns.run'
    (items_at tables seen tree.place tree.item)
    (subst (λ chosen. IsChosen tables seen c.args.scope.now.sight.now tree.place chosen
    (items_at tables seen tree.place tree.item)) c.in-Columns.is is.chosen)
    c.args.offset c.in_ok-column-in-Columns.field-0.now _ _
    (ap (λ all. slice_get all c.args.offset) (ap (λ columns. take c.in-Columns.run'.count
    (drop c.in-Columns.run'.first columns)) (sym c.as_slice.ensures.value) ∙ sym c.of.ensures) ∙ there)
    c.kind.ensures c.args.self.now.place is.place c.column.ensures
