use Rattle.sa_range.proofs.Lawful.{list_canonical}
use Rattle.sa_range.proofs.law.ranges_are_canonical.Goals as goal

pub returns : goal.returns
returns c = list_canonical c.order_is_total.ensures
