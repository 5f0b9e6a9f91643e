use Rattle.sa_key.proofs.RangeLemmas.{before_rises}
use Rattle.sa_key.proofs.law.before_goes_up.Goals as goal

pub returns : goal.returns
returns c = before_rises c.order_is_total.ensures
