use Rattle.sa_desk.proofs.laws.Talk.{requests_in_turn}
use Rattle.sa_desk.proofs.law.requests_end_once.Goals as goal

pub returns : goal.returns
returns c = requests_in_turn
