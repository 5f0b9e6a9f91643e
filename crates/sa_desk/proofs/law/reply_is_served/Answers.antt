use Rattle.sa_desk.proofs.laws.Answered.{replies_are_served}
use Rattle.sa_desk.proofs.law.reply_is_served.Goals as goal

pub returns : goal.returns
returns c = replies_are_served
