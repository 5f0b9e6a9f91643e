use Rattle.sa_board.proofs.Carried.{pass_sends}
use Rattle.sa_board.proofs.crossing.passes_send.Goals as goal

pub returns : goal.returns
returns c = pass_sends c.seats_send.ensures.desk c.seats_send.ensures.seat
