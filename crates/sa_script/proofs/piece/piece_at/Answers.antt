use Rattle.std.proofs.Common.{refl}
use Rattle.sa_script.proofs.Pieces.{piece_is}
use Rattle.sa_script.proofs.piece.piece_at.Goals as goal

pub returns-in-Ok-clause-is : goal.returns-in-Ok-clause-is
returns-in-Ok-clause-is c =
    piece_is c.args.script.now (record { place = c.args.place; text = c.range.result.now; closed = c.in-Ok.found.closed }) c.in-Ok.found
    c.in-Ok.ensures.whole c.range.ensures.value refl
