use Rattle.std.proofs.Common.{ap, sym, drop}
use Rattle.sa_cursor.proofs.Left.{row_first, range_behind}
use Rattle.sa_cursor.proofs.stretch.behind.Goals as goal

pub returns-then-rest-clause-rows : goal.returns-then-rest-clause-rows
returns-then-rest-clause-rows g c =
    sym (ap (drop 1) (row_first c.args.shelf.now c.args.level.now c.args.stretch c.requires.settled 0 c.requires.row))

pub returns-in-Range-clause-rows : goal.returns-in-Range-clause-rows
returns-in-Range-clause-rows g c =
    range_behind c.args.shelf.now c.args.level.now c.args.stretch c.next_range.result c.requires.settled c.in-Range.key c.in-Range.list c.in-Range.is c.requires.row c.if-rest.false
    (rw (c.index.ensures, c.as_slice.ensures) at c.next_range.ensures.rows)
