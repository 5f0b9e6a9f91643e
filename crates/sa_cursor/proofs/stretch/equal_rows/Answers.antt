use Rattle.std.proofs.Common.{◌≡◌, List, map, length, arith}
use Rattle.std.proofs.lemmas.List.{length-map}
use Rattle.sa_value.specs.declared.value.Value.{Value}
use Rattle.sa_plan.specs.Scan.{sought}
use Rattle.sa_cursor.proofs.Ranges.{equal-read}
use Rattle.sa_cursor.proofs.stretch.equal_rows.Goals as goal

pub returns : goal.returns
returns g c =
    let wanted : List Value = map (sought (g.R.Cells.cell_of c.args.earlier.now)) c.args.from.now in
    let long : length wanted ≡ length c.args.from.now = length-map c.args.from.now (sought (g.R.Cells.cell_of c.args.earlier.now)) in
    record {
      rows = equal-read (g.I.Index.indexed c.args.index.now) wanted c.sought_tuple-tuple.result c.sought_tuple-tuple.ensures
          c.has_null.result c.has_null.ensures c.if-has_null.false
          c.position_of-position.result c.position_of-end.result c.position_of-position.ensures.value c.position_of-end.ensures.value
          (c.equal_entries_lie_between_cuts.ensures.other (g.I.Index.indexed c.args.index.now) wanted (omega (arith, long, c.requires.fits)));
      within = c.position_of-end.ensures.within;
    }
