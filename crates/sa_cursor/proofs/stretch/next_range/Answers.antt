use Rattle.std.proofs.Common.{◌+◌, ◌++◌, drop, sym, ap, ◌∙◌, arith}
use Rattle.sa_index.specs.Entries.{entries_of, count_before}
use Rattle.sa_cursor.specs.inner.Stretch.{rows_of_ranges}
use Rattle.sa_cursor.proofs.Between.{nothing}
use Rattle.sa_cursor.proofs.Left.{range_at}
use Rattle.sa_cursor.proofs.stretch.next_range.Goals as goal

pub returns-then-position-end : goal.returns-then-position-end
returns-then-position-end g c = record {
  rows = range_at (g.I.Index.indexed c.args.index.now) c.args.ranges.now c.loop-number.number c.index-ranges-number.result c.index-ranges-number-in-loop-number.result (omega arith)
      c.position_of-position.result c.position_of-end.result
      (c.position_of-position.ensures.value ∙ ap (count_before (g.I.Index.indexed c.args.index.now)) c.view.ensures)
      (c.position_of-end.ensures.value ∙ ap (count_before (g.I.Index.indexed c.args.index.now)) c.view-in-loop-number.ensures)
      ∙ c.loop-number.invariant;
  within = c.position_of-end.ensures.within;
  last = λ order. absurd (omega arith);
}

pub loop-number-preserved : goal.loop-number-preserved
loop-number-preserved g c =
    sym (ap (λ rows. rows ++ rows_of_ranges (g.I.Index.indexed c.args.index.now) (drop (c.loop-number.number + 1) c.args.ranges.now)) (nothing c.position_of-position.result c.position_of-end.result (entries_of (g.I.Index.indexed c.args.index.now)) (omega arith)))
    ∙ range_at (g.I.Index.indexed c.args.index.now) c.args.ranges.now c.loop-number.number c.index-ranges-number.result c.index-ranges-number-in-loop-number.result (omega arith)
    c.position_of-position.result c.position_of-end.result
    (c.position_of-position.ensures.value ∙ ap (count_before (g.I.Index.indexed c.args.index.now)) c.view.ensures)
    (c.position_of-end.ensures.value ∙ ap (count_before (g.I.Index.indexed c.args.index.now)) c.view-in-loop-number.ensures)
    ∙ c.loop-number.invariant
