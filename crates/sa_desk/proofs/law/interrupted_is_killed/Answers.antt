use Rattle.sa_desk.proofs.laws.Killed.{ends_as_killed}
use Rattle.sa_desk.proofs.law.interrupted_is_killed.Goals as goal

pub returns : goal.returns
returns c terms journal before rest entry run parts number steps outcome is = ends_as_killed terms journal before rest entry number steps outcome run parts is
