use Rattle.sa_board.proofs.Carried.{desk_sends}
use Rattle.sa_board.proofs.crossing.desks_send.Goals as goal

pub returns-clause-desk : goal.returns-clause-desk
returns-clause-desk c = desk_sends c.entries_cross.ensures.send c.requests_send.ensures.requests c.requests_send.ensures.replies c.requests_send.ensures.waits
