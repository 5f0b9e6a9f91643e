use Rattle.sa_desk.proofs.laws.Outline.{outline_is_own}
use Rattle.sa_desk.proofs.law.outline_is.Goals as goal

pub returns : goal.returns
returns c = outline_is_own
