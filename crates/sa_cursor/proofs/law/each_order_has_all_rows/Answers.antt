use Rattle.sa_cursor.proofs.Left.{length-ordered}
use Rattle.sa_cursor.proofs.law.each_order_has_all_rows.Goals as goal

pub returns : goal.returns
returns c = length-ordered c.entries_are_the_rows_in_order.ensures.in_order
