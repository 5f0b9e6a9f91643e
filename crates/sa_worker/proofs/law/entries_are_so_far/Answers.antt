use Rattle.sa_worker.proofs.law.entries_are_so_far.Goals as goal
use Rattle.sa_worker.proofs.follows.SoFar.{Follows-so_far}

pub returns : goal.returns
returns c view journals answers mine follows = Follows-so_far view view.stage journals answers mine follows
