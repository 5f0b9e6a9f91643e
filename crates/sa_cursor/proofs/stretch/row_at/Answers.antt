use Rattle.std.proofs.Common.{sym, ◌∙◌}
use Rattle.sa_plan.specs.Access.{key_of}
use Rattle.sa_cursor.proofs.Left.{row_by_number}
use Rattle.sa_cursor.proofs.stretch.row_at.Goals as goal

pub returns-in-None : goal.returns-in-None
returns-in-None g c =
    row_by_number c.args.shelf.now c.args.level.now.table c.args.position (key_of c.args.level.now.access) (sym c.key.ensures ∙ c.in-None.is) c.requires.there
