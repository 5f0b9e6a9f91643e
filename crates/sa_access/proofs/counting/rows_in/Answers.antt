use Rattle.std.proofs.Common.{◌<◌, count_by, length, ap, arith}
use Rattle.sa_key.specs.declared.range.KeyRange.{KeyRange}
use Rattle.sa_index.specs.Entries.{entries_of}
use Rattle.sa_access.specs.inner.Counted.{in_range}
use Rattle.sa_access.proofs.CountLemmas.{rows_all, rows_more}
use Rattle.sa_access.proofs.counting.rows_in.Goals as goal

pub loop-range-preserved : goal.loop-range-preserved
loop-range-preserved g c =
    let index = g.I.Index.indexed c.args.index.now in
    let there : c.loop-range.range-index < length c.args.ranges.now = omega arith in
    let same = ap (λ (range : KeyRange). count_by (in_range index range) (entries_of index)) c.range-item.is in
    omega (
      arith,
      c.loop-range.invariant,
      c.rows_between.ensures,
      c.from-rows.ensures,
      same,
      rows_more c.order_is_total.ensures index c.args.ranges.now c.requires.canonical c.requires.short c.loop-range.range-index c.range-item.result there,
    )

pub returns : goal.returns
returns g c =
    omega (
      arith,
      c.loop-range.invariant,
      rows_all c.order_is_total.ensures (g.I.Index.indexed c.args.index.now) c.args.ranges.now c.requires.canonical c.requires.short c.loop-range.range-index (omega arith),
    )
