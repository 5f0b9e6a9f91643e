use Rattle.sa_cursor.proofs.Ranges.{equal-between, equal-none}
use Rattle.sa_cursor.proofs.law.equal_entries_lie_between_cuts.Goals as goal

pub returns : goal.returns
returns c = record {
  other = equal-between (record {
    total = c.order_of_tuples_is_total.ensures;
    down = c.before_goes_down.ensures;
    in_order = c.entries_are_the_rows_in_order.ensures.in_order;
  });
  null = equal-none;
}
