use Rattle.sa_board.proofs.Sentences.{follow}
use Rattle.sa_board.proofs.law.rule_says.Goals as goal

pub returns : goal.returns
returns c = follow
