use Rattle.sa_access.proofs.Keeping.{drops_none}
use Rattle.sa_access.proofs.law.offered_accesses_keep_rows.Goals as goal

pub returns : goal.returns
returns c = λ asked ranges can access offered.
    drops_none c.order_is_total.ensures c.ranges_cover_once.ensures.own c.entries_are_the_rows_in_order.ensures.in_order asked access offered
