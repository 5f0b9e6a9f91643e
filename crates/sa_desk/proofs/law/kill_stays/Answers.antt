use Rattle.sa_desk.proofs.laws.Stays.{kill_stands_on}
use Rattle.sa_desk.proofs.law.kill_stays.Goals as goal

pub returns : goal.returns
returns c = kill_stands_on
