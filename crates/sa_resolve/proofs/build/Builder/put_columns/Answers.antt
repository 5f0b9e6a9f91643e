use Rattle.std.proofs.Common.{◌∙◌, ◌++◌, ap, map, take, drop}
use Rattle.std.proofs.lemmas.List.{take_all}
use Rattle.sa_resolve.specs.inner.Listing.{star_item}
use Rattle.sa_resolve.proofs.list.Items.{columns_put}
use Rattle.sa_resolve.proofs.build.Builder.put_columns.Goals as goal

pub loop-column-preserved : goal.loop-column-preserved
loop-column-preserved c = λ tables seen place last.
    columns_put tables seen c.args.self.now.scope.sight.now place c.of-column-items.result.now
    c.loop-column.column-index
    (record { table = 0; column = 0 }) c.args.items.now.items c.loop-column.items.items c.push.new.self.items
    c.in_ok-starred.field-0
    c.loop-column-test.true (c.loop-column.invariant tables seen place last)
    (c.in_ok-starred.ensures tables seen place last) c.in_ok-push.ensures.items

pub returns : goal.returns
returns c = λ tables seen place last.
    c.loop-column.invariant tables seen place last
    ∙ ap (λ columns. c.args.items.now.items ++ map (star_item tables seen c.args.self.now.scope.sight.now
    place) columns)
    (take_all c.loop-column.column-index c.of-column-items.result.now c.loop-column-test.false
    ∙ c.of-column-items.ensures ∙ ap (λ all. take c.args.run.count (drop c.args.run.first all))
    c.as_slice.ensures.value)
