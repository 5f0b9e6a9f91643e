use Rattle.std.proofs.Common.{sym, ap}
use Rattle.sa_cursor.specs.Reading.{Reading}
use Rattle.sa_cursor.proofs.Left.{tells_left}
use Rattle.sa_cursor.proofs.cursor.Cursor.has_next.Goals as goal

pub returns : goal.returns
returns c =
    tells_left c.self.inside.tables.value c.self.inside.level.value c.self.inside.stretch c.self.invariant.settled
    c.args.self.now.left (ap (λ (reading : Reading). reading.left) (sym c.self.view_is))
