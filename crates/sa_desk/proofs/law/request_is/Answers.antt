use Rattle.sa_desk.proofs.laws.Request.{request_is_own}
use Rattle.sa_desk.proofs.law.request_is.Goals as goal

pub returns : goal.returns
returns c = request_is_own
