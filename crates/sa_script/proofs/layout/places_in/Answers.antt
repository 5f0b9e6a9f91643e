use Rattle.sa_script.proofs.LayoutLemmas.{places_more}
use Rattle.sa_script.proofs.layout.places_in.Goals as goal

pub loop-column-preserved : goal.loop-column-preserved
loop-column-preserved c =
    places_more c.args.names.now c.args.columns.now c.loop-column.column-index c.column-item.result _ c.loop-column.places.items _ _
    c.loop-column-test.true c.column-item.is c.as_str.ensures c.loop-column.invariant c.place_of.ensures c.in_ok-push.ensures.items
