use Rattle.std.proofs.Common.{[], List, ap, ◌∙◌, arith}
use Rattle.sa_key.specs.Range.{canonical_range}
use Rattle.sa_range.specs.declared.line.Piece.{Piece}
use Rattle.sa_range.specs.RangeList.{range_of}
use Rattle.sa_range.proofs.Neighbours.{united_more}
use Rattle.sa_range.proofs.united.united.Goals as goal

pub loop-walk-preserved : goal.loop-walk-preserved
loop-walk-preserved c =
    united_more (λ (walk : List Piece). canonical_range (range_of [] walk)) c.args.walks.now c.loop-walk.walk-index c.walk-item.result (omega arith) c.walk-item.is
    c.loop-walk.ranges.items c.put_last.new.ranges.items c.canonical.result c.loop-walk.invariant c.in_ok-put_last.ensures
    (c.canonical.ensures ∙ ap canonical_range (c.in_ok-range_of.ensures ∙ ap (range_of []) c.as_slice.ensures))
